-- A finished tableau: its bags are a plan of least cost, and the plans of least cost are exactly those on its tight lanes.
use Rattle.std.specs.Prelude.{◌≡◌, ◌↔◌, ◌*ℤ◌, ◌≤ℤ◌}
use Rattle.prelude.specs.Words.{true, List, ℕ, pos}
use Rattle.transport.specs.Problem.{Problem}
use Rattle.transport.specs.Laws.Sound.{Sound}
use Rattle.transport.specs.Potential.{is_finished_of}
use Rattle.transport.specs.Statements.{Belongs}
use Rattle.transport.specs.declared.Cell.{Cell}
use Rattle.tableaux.specs.Belonging.{prices-tight}
use Rattle.tableaux.specs.TableauView.{basic-flow}
use Rattle.tableaux.specs.ProblemPlans.{flow_cost, Fulfils}
use Rattle.tableaux.specs.Least.{bags_for, OnTight, bags_fulfil, bags-least, bags-least_exactly}

module _ (P : Problem) (ok : Sound P) (T : List Cell) (belongs : Belongs P T) where
  pub finished-fulfils : Fulfils P 1 (bags_for P T)
  finished-fulfils = bags_fulfil P T belongs (basic-flow ok belongs)

  module _ (done : is_finished_of P T ≡ true) (k : ℕ) (Q : List ℕ) (fulfils : Fulfils P k Q) where
    pub finished-least : (pos k *ℤ flow_cost P (bags_for P T)) ≤ℤ flow_cost P Q
    finished-least = bags-least P ok T belongs (basic-flow ok belongs) (prices-tight ok belongs) done k Q fulfils

    pub finished-least_exactly : (flow_cost P Q ≡ (pos k *ℤ flow_cost P (bags_for P T))) ↔ OnTight P T Q
    finished-least_exactly = bags-least_exactly P ok T belongs (basic-flow ok belongs) (prices-tight ok belongs) done k Q fulfils
