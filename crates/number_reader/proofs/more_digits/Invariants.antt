-- The rest of the digits is to be read from the present place on, and `count` digits make a value
-- below 10 ^ count.
use Rattle.std.specs.Prelude.{◌≡◌, ◌≤◌, ◌<◌, ◌-◌, ◌^◌}
use Rattle.prelude.specs.Words.{length, drop}
use Rattle.transport.specs.SheetText.{more_digits_of}
use Rattle.tokens.specs.Reading.{always}
use Rattle.number_reader.proofs.more_digits.Given as goal

abbrev pub invariant-loop-count : goal.invariant-loop-count
invariant-loop-count l = record {
  small : l.value < 10 ^ l._count;
  inside : l.next ≤ length l.text;
  left : more_digits_of always (l.most - 1) l.first (drop l.at l.text)
      ≡ more_digits_of always (l.most - l._count) l.value (drop l.next l.text);
}
