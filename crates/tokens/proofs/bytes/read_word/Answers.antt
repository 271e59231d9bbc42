-- The byte that must come next is the first of what is left of the word.
use Rattle.prelude.specs.Words.{sym, ◌∙◌, arith, add-one, drop_of_length-le, drop-cons}
use Rattle.tokens.specs.Reading.{byte_inside, drop-next, word-nil, word_yes, word_no}
use Rattle.tokens.proofs.bytes.read_word.Goals as goal

pub returns-then-not-byte_at-clause-reads : goal.returns-then-not-byte_at-clause-reads
returns-then-not-byte_at-clause-reads c =
    let l = c.loop-byte in
    l.invariant.left
    ∙ (rw (drop-cons c.args.expected.now l.byte-index 0 (omega arith)) (word_no _ _ _ (sym c.if-not-byte_at.ensures)))

pub loop-byte-preserved : goal.loop-byte-preserved
loop-byte-preserved c =
    let l = c.loop-byte in
    let next = sym c.if-not-byte_at.ensures in
    let cut = drop-cons c.args.expected.now l.byte-index 0 (omega arith) in
    record {
      inside = omega (arith, byte_inside c.args.text.now l.next _ next);
      left = l.invariant.left
          ∙ (rw (cut, add-one l.byte-index, ← drop-next c.args.text.now l.next) (word_yes _ _ _ next));
    }

pub returns-clause-reads : goal.returns-clause-reads
returns-clause-reads c =
    let l = c.loop-byte in
    l.invariant.left ∙ (rw (drop_of_length-le c.args.expected.now {i = l.byte-index} (omega arith), word-nil))
