-- The front of a call that takes a tableau: what its tests refuse, and what rounds begin with if they refuse nothing.
use Rattle.std.specs.Prelude.{◌≡◌, ◌∷◌, MatchResult}
use Rattle.std.specs.declared.result.Result.{Result}
use Rattle.prelude.specs.Words.{refl, sym, ◌∙◌, Bool, true, false, not, List, [], none, some, ℕ, eqb, ℤ, length}
use Rattle.prelude.specs.Words.{take}
use Rattle.transport.specs.declared.Refusal.{Refusal}
use Rattle.transport.specs.Problem.{sources, sinks}
use Rattle.transport.specs.Sheet.{Sheet, sheet_of, cafes, sheet_tests, refusal}
use Rattle.transport.specs.Extended.{surplus, wanted, extended}
use Rattle.transport.specs.Parties.{rows_left_of, columns_left, struck, problem_of}
use Rattle.transport.specs.Tableau.{cells_of, basis_size}
use Rattle.transport.specs.Belonging.{cells_belong, belongs}
use Rattle.transport.specs.OwnNumbers.{belongs_to}
use Rattle.transport.specs.Potential.{is_finished_of}
use Rattle.transport.specs.Calls.{tableau_tests, inside, finished_tests}
use Rattle.transport.specs.Statements.{Accepted}
use Rattle.transport.specs.Laws.ListLaws.{and_right}
use Rattle.transport.specs.Laws.SheetLaws.{refusal_yes, refusal-pass, refusal-stands, passes}
use Rattle.transport.specs.Laws.CallLaws.{refusal-last}
use Rattle.transport.specs.Laws.PartiesLaws.{struck-sources, struck-sinks}
use Rattle.transport.proofs.Sound.{sound}
use Rattle.transport.specs.declared.Cell.{Cell}
use Rattle.transport.specs.declared.Tableau.{Tableau}
use Rattle.parties.specs.declared.Parties.{Parties}
use Rattle.tableaux.specs.Belonging.{belongs-amounts}
use Rattle.parties.specs.Parties.{PartiesOf, NumbersOf, supplies-lent, demands-lent, numbers-amounts}
use Rattle.board.specs.declared.Board.{Board}
use Rattle.board.specs.OnBoard.{LoadedOn}
use Rattle.cost_grid.specs.Costs.{Spread, spread_costed}
use Rattle.rounds.specs.OnBoard.{BegunOn}

-- ---- what the tests refuse

module _ (S : Sheet) (t : Tableau) where
  -- The sheet, ..
  pub sheet-refused : (k : Refusal) → refusal (sheet_tests S) ≡ some k → refusal (tableau_tests S t) ≡ some k
  unfolding tableau_tests
  sheet-refused k e = refusal-stands (sheet_tests S) ((not (belongs_to (extended S) t), Refusal.NotBelonging) ∷ []) k e

  -- .. the tableau of an accepted one, ..
  pub tableau-refused : Accepted S → belongs_to (extended S) t ≡ false → refusal (tableau_tests S t) ≡ some Refusal.NotBelonging
  unfolding tableau_tests
  tableau-refused ok b =
      refusal-pass (sheet_tests S) ((not (belongs_to (extended S) t), Refusal.NotBelonging) ∷ []) (passes ok)
      ∙ refusal_yes (not (belongs_to (extended S) t), Refusal.NotBelonging) [] (rw b)

  -- .. or neither.
  pub none-refused : Accepted S → belongs_to (extended S) t ≡ true → refusal (tableau_tests S t) ≡ none
  unfolding tableau_tests
  none-refused ok b = (refusal-last (sheet_tests S) (not (belongs_to (extended S) t), Refusal.NotBelonging)).1 (passes ok, rw b)

  -- If the tableau is to be finished as well, what refuses sheet or tableau comes first ..
  pub early_refused : (k : Refusal) → refusal (tableau_tests S t) ≡ some k → refusal (finished_tests S t) ≡ some k
  unfolding finished_tests
  early_refused k e = refusal-stands (tableau_tests S t) _ k e

  module _ (e : refusal (tableau_tests S t) ≡ none) where
    -- .. then that it is not finished ..
    pub unfinished-refused : is_finished_of (problem_of S) (inside S t) ≡ false → refusal (finished_tests S t) ≡ some Refusal.Unfinished
    unfolding finished_tests
    unfinished-refused f =
        refusal-pass (tableau_tests S t) _ e ∙ refusal_yes (not (is_finished_of (problem_of S) (inside S t)), Refusal.Unfinished) [] (rw f)

    -- .. or nothing is refused.
    pub finished-passes : is_finished_of (problem_of S) (inside S t) ≡ true → refusal (finished_tests S t) ≡ none
    unfolding finished_tests
    finished-passes f = (refusal-last (tableau_tests S t) _).1 (e, rw f)

-- ---- what is loaded

-- What rounds begin with: the parties left have their own numbers, and a tableau T of these is laid
-- out on the board with the costs of their lanes. Their amounts are no longer looked at.
pub record Admitted (S : Sheet) (T : List Cell) (p : Parties) (b : Board) (cost : List ℤ) : Type 0 where
  pub accepted : Accepted S
  pub parties : NumbersOf S p
  pub spread : Spread S.cost (cafes S) (take p.rows p.row_numbers) (take p.cafes p.column_numbers) cost
  pub begun : BegunOn (problem_of S) T b cost p.rows p.columns

-- Either the tests refuse, or rounds can begin with T, and the amounts of the parties are there too.
abbrev pub LoadedBy : Sheet → List (Bool × Refusal) → List Cell → Board → List ℤ → Result Parties Refusal → Type 0
LoadedBy S tests T b cost r =
    MatchResult r (λ p. (refusal tests ≡ none) × Admitted S T p b cost × PartiesOf S p) (λ k. refusal tests ≡ some k)

module _ {S : Sheet} (ok : Accepted S) {p : Parties} (h : PartiesOf S p) where
  -- The tableau t, which is `inner` among those left, belongs, and the costs of their lanes are spread.
  pub begun-loaded : (t inner : Tableau) (b : Board) {cost : List ℤ}
      → Spread S.cost (cafes S) (take p.rows p.row_numbers) (take p.cafes p.column_numbers) cost
      → belongs (problem_of S) inner ≡ true → cells_of inner ≡ inside S t
      → LoadedOn (length (take p.rows p.supplies)) (length (take p.columns p.demands)) (cells_of inner) b
      → BegunOn (problem_of S) (inside S t) b cost p.rows p.columns
  unfolding belongs problem_of
  begun-loaded t inner b spread own same l =
      let count = eqb inner.count (basis_size (sources (problem_of S)) (sinks (problem_of S))) in
      record {
        sound = sound ok;
        rows = h.row_count_of ∙ sym (struck-sources (extended S));
        columns = h.column_count_of ∙ sym (struck-sinks (extended S));
        belongs = rw (← same) (and_right count (cells_belong (problem_of S) (cells_of inner)) own);
        costs = spread_costed ok (rw (h.row_numbers, h.cafe_numbers) at spread);
        loaded = rw (← supplies-lent h, ← demands-lent h, ← same) l;
      }

-- With other costs rounds begin with the same tableau, once these costs are spread: belonging looks
-- at amounts alone.
pub admitted_respread : {supply demand : List ℕ} {old new : List ℤ} → Accepted (sheet_of supply demand new)
    → {T : List Cell} {p : Parties} {b : Board} {cost cost' : List ℤ}
    → Admitted (sheet_of supply demand old) T p b cost
    → Spread new (length demand) (take p.rows p.row_numbers) (take p.cafes p.column_numbers) cost'
    → Admitted (sheet_of supply demand new) T p b cost'
unfolding cafes problem_of struck extended wanted surplus rows_left_of columns_left sources sinks
admitted_respread {supply} {demand} {old} {new} ok {T} w spread =
    let S : Sheet = sheet_of supply demand old in
    let S' : Sheet = sheet_of supply demand new in
    let b = w.begun in
    let parties = numbers-amounts w.parties in
    record {
      accepted = ok;
      parties = parties;
      spread = spread;
      begun = record {
        sound = sound ok;
        rows = b.rows;
        columns = b.columns;
        belongs = belongs-amounts (problem_of S') (problem_of S) T refl refl ∙ b.belongs;
        costs = spread_costed ok (rw (parties.row_numbers, parties.cafe_numbers) at spread);
        loaded = b.loaded;
      };
    }
