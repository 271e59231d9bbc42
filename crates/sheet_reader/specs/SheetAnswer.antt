-- What an answer says was read up to the end of the text.
use Rattle.std.specs.Prelude.{◌≡◌, ◌*◌, ◌≤◌, Result, Ok, Err}
use Rattle.prelude.specs.Words.{sym, ap, ◌∙◌, List, [], ℕ, le_trans, mul-le-mul, ℤ, length, take, drop, length-take-le}
use Rattle.std.specs.Result.{IsErrAnd}
use Rattle.std.proofs.lemmas.Result.{err_from_is_err_and}
use Rattle.transport.specs.Limits.{max_sources, max_sinks}
use Rattle.transport.specs.Sheet.{Sheet as SheetRecord}
use Rattle.transport.specs.Text.{bytes}
use Rattle.transport.specs.SheetText.{Reading, stuck, got, pure, sheet_reader}
use Rattle.tokens.specs.declared.Stuck.{Stuck}
use Rattle.tokens.specs.Reading.{bind-got, bind-stuck}
use Rattle.line_reader.specs.SheetRead.{list_reader, after_demand, after_supply, after-demanded, sheet-supplied}
use Rattle.transport.specs.declared.Counts.{Counts}

-- The rest of the text from a place on stands for the place. `f` gives the value that was read for
-- the counts in the answer.
abbrev pub answer_of : {A : Type 0} → List ℕ → (ℕ → ℕ → A) → Result Counts Stuck → Reading A
answer_of text f (Ok counts) = got (f counts.sources counts.sinks) []
answer_of text f (Err stop) = stuck (drop stop.0 text)

-- Counts that pass, or a place in the text.
abbrev pub AnswerFits : List ℕ → (ℕ → ℕ → Type 0) → Result Counts Stuck → Type 0
AnswerFits text P (Ok counts) = P counts.sources counts.sinks
AnswerFits text P (Err stop) = stop.0 ≤ length text

-- The sheet that the fronts of three lists are.
abbrev front_sheet : List ℕ → List ℕ → List ℤ → ℕ → ℕ → SheetRecord
front_sheet supply demand cost m n = record { supply = take m supply; demand = take n demand; cost = take (m * n) cost }

-- The whole text: the sheet is in the fronts of three lists.
abbrev pub sheet_read : List ℕ → List ℕ → List ℕ → List ℤ → Result Counts Stuck → Reading SheetRecord
sheet_read text supply demand cost = answer_of text (front_sheet supply demand cost)

-- Sides within their limits.
abbrev pub ReadFits : List ℕ → Result Counts Stuck → Type 0
ReadFits text = AnswerFits text (λ m n. (1 ≤ m) × (m ≤ max_sources) × (1 ≤ n) × (n ≤ max_sinks))

-- What `?` hands on: where a reader within is stuck, so is the whole, at the same place.
pub handed_off : {whole : Reading SheetRecord} (text supply demand : List ℕ) (cost : List ℤ) (stop : Stuck)
    (r : Result Counts Stuck) → IsErrAnd r (λ s. s ≡ stop) → whole ≡ stuck (drop stop.0 text)
    → whole ≡ sheet_read text supply demand cost r
handed_off text supply demand cost stop r e w = let p = err_from_is_err_and r e in rw (p.1, p.2) w

-- ---- a list, and what comes after it

-- A list that was read: its count, and the place after it.
pub record ListRead (name : List ℕ) (most : ℕ) (text : List ℕ) (at : ℕ) (list : List ℕ) (k next : ℕ) : Type 0 where
  pub reads : list_reader name most (drop at text) ≡ got (take k list) (drop next text)
  pub inside : next ≤ length text
  pub some : 1 ≤ k
  pub few : k ≤ most
  pub room : k ≤ length list

module _ {text : List ℕ} {at : ℕ} {demand : List ℕ} {n next : ℕ}
    (l : ListRead (bytes "demand ") max_sinks text at demand n next) (m : ℕ) (cost : List ℤ) where
  -- The demands were read: the answer of what comes after them, with them, is that of the whole
  -- from the demands on.
  pub demands-answer : (r : Result Counts Stuck)
      → after_demand m n (drop next text) ≡ answer_of text (λ a b. take (a * b) cost) r
      → AnswerFits text (λ a b. (a ≡ m) × (b ≡ n)) r →
      (after_supply m (drop at text) ≡ answer_of text (λ a b. (take b demand, take (a * b) cost)) r)
      × (AnswerFits text (λ a b. (a ≡ m) × (1 ≤ b) × (b ≤ max_sinks)) r)
  unfolding pure
  demands-answer (Ok counts) e (rows, columns) =
      let costs = take (counts.sources * counts.sinks) cost in (
        after-demanded m _ _ n demand l.room l.reads
            ∙ bind-got (after_demand m n) (drop next text) [] _ costs e
            ∙ ap (λ k. got (take k demand, costs) []) (sym columns),
        (rows, rw columns l.some, rw columns l.few),
      )
  demands-answer (Err stop) e h = (
    after-demanded m _ _ n demand l.room l.reads
        ∙ bind-stuck (after_demand m n) (drop next text) (drop stop.0 text) _ e,
    h,
  )

module _ {text supply : List ℕ} {m next : ℕ} (l : ListRead (bytes "supply ") max_sources text 0 supply m next)
    (demand : List ℕ) (cost : List ℤ) where
  -- The supplies were read: the answer of what comes after them, with them, is that of the whole
  -- text.
  pub supplies-answer : (r : Result Counts Stuck)
      → after_supply m (drop next text) ≡ answer_of text (λ a b. (take b demand, take (a * b) cost)) r
      → AnswerFits text (λ a b. (a ≡ m) × (1 ≤ b) × (b ≤ max_sinks)) r →
      (sheet_reader text ≡ sheet_read text supply demand cost r) × (ReadFits text r)
  unfolding pure
  supplies-answer (Ok counts) e (rows, some, few) =
      let demands = take counts.sinks demand in
      let costs = take (counts.sources * counts.sinks) cost in (
        sheet-supplied text _ m supply l.room l.reads
            ∙ bind-got (after_supply m) (drop next text) [] _ (demands, costs) e
            ∙ ap (λ k. got (record { supply = take k supply; demand = demands; cost = costs }) []) (sym rows),
        (rw rows l.some, rw rows l.few, some, few),
      )
  supplies-answer (Err stop) e h = (
    sheet-supplied text _ m supply l.room l.reads
        ∙ bind-stuck (after_supply m) (drop next text) (drop stop.0 text) _ e,
    h,
  )

-- ---- a sheet that was read

-- A sheet of m sources and n sinks is the text's, and stands in the fronts of three lists.
pub record SheetIn (text supply demand : List ℕ) (cost : List ℤ) (m n : ℕ) : Type 0 where
  pub reads : sheet_reader text ≡ got (front_sheet supply demand cost m n) []
  pub m-some : 1 ≤ m
  pub m-few : m ≤ max_sources
  pub n-some : 1 ≤ n
  pub n-few : n ≤ max_sinks
  pub supply-room : m ≤ length supply
  pub demand-room : n ≤ length demand
  pub cost-room : m * n ≤ length cost

module _ {text supply demand : List ℕ} {cost : List ℤ} {m n : ℕ} where
  pub sheet_in : sheet_reader text ≡ got (front_sheet supply demand cost m n) []
      → (1 ≤ m) × (m ≤ max_sources) × (1 ≤ n) × (n ≤ max_sinks)
      → max_sources ≤ length supply → max_sinks ≤ length demand → max_sources * max_sinks ≤ length cost
      → SheetIn text supply demand cost m n
  sheet_in e h s d c = record {
    reads = e;
    m-some = h.0;
    m-few = h.1;
    n-some = h.2;
    n-few = h.3;
    supply-room = le_trans h.1 s;
    demand-room = le_trans h.3 d;
    cost-room = le_trans (mul-le-mul h.1 h.3) c;
  }

  module _ (h : SheetIn text supply demand cost m n) where
    pub supply-length : length (take m supply) ≡ m
    supply-length = length-take-le m supply h.supply-room

    pub demand-length : length (take n demand) ≡ n
    demand-length = length-take-le n demand h.demand-room

    pub cost-length : length (take (m * n) cost) ≡ m * n
    cost-length = length-take-le (m * n) cost h.cost-room
