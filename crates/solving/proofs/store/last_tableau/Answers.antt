-- The tableau is gathered, and gets own numbers.
use Rattle.prelude.specs.Words.{ap, ◌∙◌}
use Rattle.transport.specs.Tableau.{tableau_of}
use Rattle.board.specs.Drawing.{board-belongs}
use Rattle.numbering.specs.Lent.{own-within, own-lent}
use Rattle.solving.specs.Stored.{last-given}
use Rattle.solving.proofs.store.last_tableau.Goals as goal

pub gather-last-requires : goal.gather-last-requires
gather-last-requires c = let j = c.requires.5.judged in (_, _, (j.sub, j.path, j.board))

pub own_tableau-requires : goal.own_tableau-requires
own_tableau-requires c =
    let f = c.requires.5 in
    let j = f.judged in (
      _,
      c.gather-last.ensures _ _ (j.sub, j.path, j.board),
      rw (c.row_numbers.ensures, c.column_numbers.ensures) (own-within f.accepted f.parties (board-belongs j.board)),
    )

pub returns : goal.returns
returns c = λ S T made cost price f.
    let j = f.judged in
    let gathered = c.gather-last.ensures _ _ (j.sub, j.path, j.board) in
    let own = rw (c.row_numbers.ensures, c.column_numbers.ensures) at (c.own_tableau.ensures _ gathered) in
    last-given S T (own ∙ ap tableau_of (own-lent f.accepted f.parties _))
