-- The costs that are spread by column, after an edit: with one new cost among them, or for other
-- parties.
use Rattle.std.specs.Prelude.{◌≡◌, ◌&&◌, ◌+◌, ◌*◌, ◌≤◌, ◌<◌}
use Rattle.prelude.specs.Words.{sym, ap, ◌∙◌, by_cases, true, eqb, eqb-true, List, ℕ}
use Rattle.prelude.specs.Words.{arith, Dec-and, ℕ_discrete}
use Rattle.prelude.specs.Words.{ℤ, pos, nat_abs, length, get_or, set, take, length-set, length-take-le}
use Rattle.prelude.specs.Words.{get_or-set_same, get_or-set_other}
use Rattle.transport.specs.Limits.{max_side, max_cost}
use Rattle.transport.specs.Lists.{at, at_z}
use Rattle.transport.specs.Problem.{place}
use Rattle.transport.specs.declared.Change.TheVariants as Change
use Rattle.transport.specs.declared.Edit.{Edit}
use Rattle.transport.specs.Sheet.{Sheet, sheet_of, roasteries, cafes}
use Rattle.transport.specs.Extended.{extended}
use Rattle.transport.specs.Parties.{left, rows_left_of}
use Rattle.transport.specs.Laws.ListLaws.{and_left, and_right}
use Rattle.transport.specs.Laws.ProblemLaws.{place_injective}
use Rattle.transport.specs.Laws.PartiesLaws.{left-whole}
use Rattle.parties.specs.declared.Parties.{Parties}
use Rattle.parties.specs.Parties.{NumbersOf}
use Rattle.tree.specs.Layout.{stride, stride-is}
use Rattle.numbering.specs.Numbers.{Growing, number_in, number_in-at, number_in-found}
use Rattle.cost_grid.specs.Costs.{Spread}
use Rattle.edit_steps.specs.Edits.{EditOf, same-costs, same-roasteries, same-cafes}

-- No two places of such a list have the same own number.
growing_once : {ks : List ℕ} → Growing ks → (h k : ℕ) → h < length ks → k < length ks → at ks h ≡ at ks k → h ≡ k
growing_once g h k l r e = sym (number_in-at g h l) ∙ ap (number_in _) e ∙ number_in-at g k r

-- The parties left are those of a sheet, and the lane that gets a new cost is on it.
pub record Respreadable (cost : List ℤ) (cafes : ℕ) (rows cols : List ℕ) (row col : ℕ) (c : ℤ) : Type 0 where
  pub growing_rows : Growing rows
  pub growing_cols : Growing cols
  pub columns : (j : ℕ) → j < length cols → at cols j < cafes
  pub on_sheet : col < cafes
  pub placed : place cafes row col < length cost
  pub small : nat_abs c ≤ max_cost

module _ {cost : List ℤ} {cafes : ℕ} {rows cols : List ℕ} {row col : ℕ} {c : ℤ} {out : List ℤ}
    (g : Respreadable cost cafes rows cols row col c) (w : Spread cost cafes rows cols out) where
  abbrev new : List ℤ
  new = set cost (place cafes row col) c

  -- All other lanes cost what they did.
  other-lane : (i j : ℕ) → j < length cols → ¬ ((at rows i ≡ row) × (at cols j ≡ col))
      → at_z new (place cafes (at rows i) (at cols j)) ≡ at_z cost (place cafes (at rows i) (at cols j))
  unfolding at_z
  other-lane i j l other = get_or-set_other cost _ _ c (pos 0)
      (λ e. other (place_injective cafes (at rows i) (at cols j) row col (g.columns j l) g.on_sheet e))

  -- If one of the two parties is struck, nothing changes.
  respread_struck : ((i j : ℕ) → i < length rows → j < length cols → ¬ ((at rows i ≡ row) × (at cols j ≡ col)))
      → Spread new cafes rows cols out
  respread_struck none = record {
    long = w.long;
    lanes = λ i j l h. w.lanes i j l h ∙ sym (other-lane i j h (none i j l h));
    beyond = w.beyond;
    small = w.small;
  }

  -- Else the lane's place is stored.
  respread_lane_of : (i j : ℕ) → i < length rows → j < length cols → at rows i ≡ row → at cols j ≡ col
      → Spread new cafes rows cols (set out (j * stride + i) c)
  unfolding at_z
  respread_lane_of i j l h is_row is-col = record {
    long = length-set out (j * stride + i) c ∙ w.long;
    lanes = lanes;
    beyond = λ x y b r. get_or-set_other out _ _ c (pos 0) (λ s. omega (arith, rows_few)) ∙ w.beyond x y b r;
    small = λ p. by_cases (ℕ_discrete p (j * stride + i))
        (λ s. rw (s, get_or-set_same out (j * stride + i) c (pos 0) spot) g.small)
        (λ s. rw (get_or-set_other out (j * stride + i) p c (pos 0) s) (w.small p));
  }
    where
      rows_few : length rows ≤ stride
      rows_few = omega (arith, g.growing_rows.few, stride-is)

      spot : j * stride + i < length out
      spot = omega (arith, w.long, g.growing_cols.few, rows_few, stride-is)

      lanes : (x y : ℕ) → x < length rows → y < length cols
          → get_or (set out (j * stride + i) c) (y * stride + x) (pos 0)
          ≡ get_or new (place cafes (at rows x) (at cols y)) (pos 0)
      lanes x y p q = by_cases (Dec-and (ℕ_discrete x i) (ℕ_discrete y j))
          (λ (a, b).
          rw (a, b, is_row, is-col) (get_or-set_same out (j * stride + i) c (pos 0) spot
          ∙ sym (get_or-set_same cost (place cafes row col) c (pos 0) g.placed)))
          (λ other.
          get_or-set_other out (j * stride + i) (y * stride + x) c (pos 0)
          (λ s. other (omega (arith, rows_few), omega (arith, rows_few)))
          ∙ w.lanes x y p q
          ∙ sym (other-lane x y q (λ (a, b). other (
            growing_once g.growing_rows x i p l (a ∙ sym is_row),
            growing_once g.growing_cols y j q h (b ∙ sym is-col),
          ))))

-- What number_in finds decides which of the two it is.
module _ {cost : List ℤ} {cafes : ℕ} {rows cols : List ℕ} {row col : ℕ} {c : ℤ} {out : List ℤ}
    (g : Respreadable cost cafes rows cols row col c) (w : Spread cost cafes rows cols out) where
  pub respread_no_row : number_in rows row ≡ max_side → Spread (set cost (place cafes row col) c) cafes rows cols out
  respread_no_row none = respread_struck g w (λ i j l h (a, b).
      let found = sym (number_in-at g.growing_rows i l) ∙ ap (number_in rows) a ∙ none in
      omega (arith, found, g.growing_rows.few))

  pub respread_no_column : number_in cols col ≡ max_side → Spread (set cost (place cafes row col) c) cafes rows cols out
  respread_no_column none = respread_struck g w (λ i j l h (a, b).
      let found = sym (number_in-at g.growing_cols j h) ∙ ap (number_in cols) b ∙ none in
      omega (arith, found, g.growing_cols.few))

  pub respread_found : {i j : ℕ} {x : ℤ} → (i < length rows) × (i ≡ number_in rows row)
      → (j < length cols) × (j ≡ number_in cols col) → x ≡ c
      → Spread (set cost (place cafes row col) c) cafes rows cols (set out (j * stride + i) x)
  respread_found {i} {j} (below_i, at_i) (below_j, at_j) is =
      let (_, is_row) = number_in-found rows row (λ e. omega (arith, at_i, e, g.growing_rows.few)) in
      let (_, is-col) = number_in-found cols col (λ e. omega (arith, at_j, e, g.growing_cols.few)) in
      rw is (respread_lane_of g w i j below_i below_j (ap (at rows) at_i ∙ is_row) (ap (at cols) at_j ∙ is-col))

  -- The same, told by what is not found.
  pub respread_numbered : {i j : ℕ} {x : ℤ} → i ≡ number_in rows row → j ≡ number_in cols col → x ≡ c
      → ¬ (i ≡ max_side) → ¬ (j ≡ max_side)
      → Spread (set cost (place cafes row col) c) cafes rows cols (set out (j * stride + i) x)
  respread_numbered at_i at_j is r k =
      let (i, is_row) = number_in-found rows row (λ e. r (at_i ∙ e)) in
      let (j, is-col) = number_in-found cols col (λ e. k (at_j ∙ e)) in
      rw (at_i, at_j, is) (respread_lane_of g w (number_in rows row) (number_in cols col) i j is_row is-col)

-- ---- for other parties

-- So many parties are left of m roasteries and n cafés that nobody is struck.
abbrev pub AllLeft : ℕ → ℕ → ℕ → ℕ → Type 0
AllLeft m n rows cafes = (rows ≡ m) × (cafes ≡ n)

pub all-left-is : {m n rows cafes : ℕ} → eqb rows m && eqb cafes n ≡ true → AllLeft m n rows cafes
all-left-is {m} {n} {rows} {cafes} e =
    (eqb-true rows m (and_left (eqb rows m) (eqb cafes n) e), eqb-true cafes n (and_right (eqb rows m) (eqb cafes n) e))

-- The costs of the sheet lie as they should while everybody is left, if nobody was struck of the
-- parties before.
abbrev pub SpreadBefore : Sheet → Parties → List ℤ → Type 0
SpreadBefore S before out =
    AllLeft (roasteries S) (cafes S) before.rows before.cafes
    → AllLeft (roasteries S) (cafes S) (length (left S.supply)) (length (left S.demand))
    → Spread S.cost (cafes S) (left S.supply) (left S.demand) out

-- The cafés left are counted.
pub cafes-left : {S : Sheet} {p : Parties} → NumbersOf S p → p.cafes ≡ length (left S.demand)
cafes-left {p = p} h =
    sym (length-take-le p.cafes p.column_numbers (omega (arith, p.in_room.1, p.in_room.2))) ∙ ap length h.cafe_numbers

-- Lists of parties that are as long and have the same own numbers.
spread-alike : {cost : List ℤ} {cafes : ℕ} {rows cols rows' cols' : List ℕ} {out : List ℤ}
    → length rows' ≡ length rows → length cols' ≡ length cols
    → ((i : ℕ) → i < length rows → at rows' i ≡ at rows i) → ((j : ℕ) → j < length cols → at cols' j ≡ at cols j)
    → Spread cost cafes rows cols out → Spread cost cafes rows' cols' out
spread-alike m n r k w = record {
  long = w.long;
  lanes = λ i j l h. w.lanes i j (rw m at l) (rw n at h) ∙ rw (r i (rw m at l), k j (rw n at h));
  beyond = λ i j l h. w.beyond i j l (rw n at h);
  small = w.small;
}

-- Where nobody is struck, each own number is the number, so that they are the same before and
-- after.
pub spread-before : {S : Sheet} {e : Edit} {supply demand : List ℕ} {cost : List ℤ} → EditOf S e supply demand cost
    → {s d : ℕ} → e.change ≡ Change.Amounts s d → {p : Parties} {out : List ℤ} → NumbersOf S p
    → Spread S.cost (cafes S) (take p.rows p.row_numbers) (take p.cafes p.column_numbers) out
    → SpreadBefore (sheet_of supply demand cost) p out
unfolding roasteries cafes rows_left_of extended
spread-before {S} {supply = supply} {demand} {cost} edits is {p} h w (m, n) (m', n') =
    let same-m = same-roasteries edits is in
    let same-n = same-cafes edits is in
    let old : Spread S.cost (length S.demand) (left S.supply) (left S.demand) _ =
    rw (h.row_numbers, h.cafe_numbers) at w in
    let rows : length (left S.supply) ≡ length S.supply = omega (arith, h.row_count_of, m, same-m) in
    let cols : length (left S.demand) ≡ length S.demand = sym (cafes-left h) ∙ n ∙ same-n in
    rw (same-costs edits is, same-n) (spread-alike
    (m' ∙ same-m ∙ sym rows) (n' ∙ same-n ∙ sym cols)
    (λ i l. left-whole supply m' i (omega arith) ∙ sym (left-whole S.supply rows i l))
    (λ j l. left-whole demand n' j (omega arith) ∙ sym (left-whole S.demand cols j l))
    old)
