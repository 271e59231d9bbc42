-- What is left of the word is to be read from the present place on.
use Rattle.std.specs.Prelude.{◌≡◌, ◌≤◌}
use Rattle.prelude.specs.Words.{length, drop}
use Rattle.transport.specs.SheetText.{word}
use Rattle.tokens.proofs.bytes.read_word.Given as goal

abbrev pub invariant-loop-byte : goal.invariant-loop-byte
invariant-loop-byte l = record {
  inside : l.next ≤ length l.text;
  left : word l.expected (drop l.at l.text) ≡ word (drop l.byte-index l.expected) (drop l.next l.text);
}
