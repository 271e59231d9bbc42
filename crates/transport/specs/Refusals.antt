-- Why calls refuse: the number of each refusal, and the place that comes with that of a text.
use Rattle.std.specs.Prelude.{ℕ, Some, None}
use Rattle.std.specs.declared.option.Option.{Option}
pub use Rattle.transport.specs.declared.Refusal.{Refusal}

abbrev pub number : Refusal → ℕ
number Refusal.Sides = 1
number Refusal.CostCount = 2
number Refusal.Amount = 3
number Refusal.Cost = 4
number Refusal.Lacking = 5
number Refusal.NotBelonging = 6
number Refusal.Unfinished = 7
number Refusal.TooShort = 8
number (Refusal.NotSheetText p) = 9
number Refusal.Crowded = 10
number Refusal.Idle = 11
number Refusal.BadEdit = 12

abbrev pub place_of : Refusal → Option ℕ
place_of Refusal.Sides = None
place_of Refusal.CostCount = None
place_of Refusal.Amount = None
place_of Refusal.Cost = None
place_of Refusal.Lacking = None
place_of Refusal.NotBelonging = None
place_of Refusal.Unfinished = None
place_of Refusal.TooShort = None
place_of (Refusal.NotSheetText p) = Some p
place_of Refusal.Crowded = None
place_of Refusal.Idle = None
place_of Refusal.BadEdit = None
