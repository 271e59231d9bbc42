-- Both ways out are cases of `smaller`.
use Rattle.prelude.specs.Words.{sym}
use Rattle.tableaux.specs.Starting.{smaller-row, smaller-column}
use Rattle.dealing.proofs.corner.smaller.Goals as goal

pub returns-then-less : goal.returns-then-less
returns-then-less c = sym (smaller-column _ _ (sym c.if-less.ensures))

pub returns-else-less : goal.returns-else-less
returns-else-less c = sym (smaller-row _ _ (sym c.if-less.ensures))
