-- The loop that the entering lane closes with the basic lanes: there is one, and the signs alternate round it and are 0 off it.
use Rattle.std.specs.Prelude.{◌≡◌, ◌≢◌, ◌∷◌, ◌++◌, ◌+◌, ◌<◌}
use Rattle.prelude.specs.Words.{refl, ap, sym, ◌∙◌, ⊎_elim, by_cases, List, [], Memᴰ, Memᴰ-head, Memᴰ-tail}
use Rattle.prelude.specs.Words.{Memᴰ-not_nil, Memᴰ-cases_cons, Memᴰ-append_cases, Memᴰ-eq_of_singleton, Memᴰ-cast, ℕ, arith}
use Rattle.prelude.specs.Words.{ℕ_discrete, ℤ, pos, negsuc}
use Rattle.integers.specs.Integer.{Z, ◌≈◌, ◌⊕◌, neg, nat}
use Rattle.integers.specs.Bridge.{to_z, z-eq, eq-z}
use Rattle.integers.specs.Sum.{sum, point}
use Rattle.integers.specs.SumLaws.{sum-add}
use Rattle.transport.specs.Problem.{Problem, sources, sinks, Lane}
use Rattle.transport.specs.Laws.Sound.{Sound}
use Rattle.transport.specs.Laws.ProblemLaws.{lane}
use Rattle.transport.specs.Tableau.{basis_for}
use Rattle.transport.specs.Leaf.{Strike, strikes}
use Rattle.transport.specs.Statements.{Basic, Belongs, Way, closes, goes, Apart, empty, fresh, Loop, Alternate, none, pair, basic_sign, loop_sign, OneLoop}
use Rattle.transport.specs.Laws.RoundLaws.{lane-same, lane-other}
use Rattle.transport.specs.declared.Cell.{Cell}
use Rattle.network.specs.Flow.{Flow}
use Rattle.tableaux.specs.Lanes.{Has, Fits, has-basic, member_dec, on-lane, on-lane-at, on-lane-off, on-lane-row, on-lane-column}
use Rattle.tableaux.specs.Leaves.{Ends, row-struck, column-struck}
use Rattle.tableaux.specs.Striking.{Peeled, bare, peel, Struck, struck_of, lane-once, Live, live-later, Hung, hung-later, hung-first, struck-live}
use Rattle.tableaux.specs.Striking.{struck-hung}
use Rattle.tableaux.specs.Flows.{point-neg, signs_of, sign-off, flow-only}
use Rattle.tableaux.specs.Belonging.{fits_of, spans_of}

-- ---- there is a loop

-- A walk from node a to node b along lanes.
data Walk (m b : ℕ) : ℕ → List Lane → Type 0 where
  stay : {a : ℕ} → a ≡ b → Walk m b a []
  down : {a : ℕ} {l : Lane} {ls : List Lane} → a ≡ l.row → Walk m b (m + l.col) ls → Walk m b a (l ∷ ls)
  up : {a : ℕ} {l : Lane} {ls : List Lane} → a ≡ m + l.col → Walk m b l.row ls → Walk m b a (l ∷ ls)

walk-append : {m b c a : ℕ} {ks ls : List Lane} → Walk m c a ks → Walk m b c ls → Walk m b a (ks ++ ls)
walk-append (stay e) w = rw e w
walk-append (down e rest) w = down e (walk-append rest w)
walk-append (up e rest) w = up e (walk-append rest w)

-- a step on a strike's lane
walk-out : {m a b : ℕ} {ls : List Lane} {s : Strike} → Ends m s → s.leaf ≡ a → Walk m b s.other ls → Walk m b a (s.lane ∷ ls)
walk-out (row-struck p q) e w = down (sym e ∙ p) (rw q at w)
walk-out (column-struck p q) e w = up (sym e ∙ p) (rw q at w)

walk_in : {m b : ℕ} {s : Strike} → Ends m s → s.leaf ≡ b → Walk m b s.other (s.lane ∷ [])
walk_in (row-struck p q) e = up q (stay (sym p ∙ e))
walk_in (column-struck p q) e = down q (stay (sym p ∙ e))

apart-last : {ls : List Lane} (l : Lane) → (Memᴰ l ls → ⊥) → Apart ls → Apart (ls ++ (l ∷ []))
apart-last l d empty = fresh Memᴰ-not_nil empty
apart-last l d (fresh {l = k} {ls} e rest) = fresh
    (λ h. ⊎_elim e (λ q. d (Memᴰ-head (sym (Memᴰ-eq_of_singleton q)))) (Memᴰ-append_cases ls h))
    (apart-last l (λ h. d (Memᴰ-tail h)) rest)

-- A walk from a to b over distinct lanes of the strikes.
record Walked (m : ℕ) (ss : List Strike) (a b : ℕ) : Type 0 where
  lanes : List Lane
  walk : Walk m b a lanes
  apart : Apart lanes
  used : (l : Lane) → Memᴰ l lanes → (t : Strike) × Memᴰ t ss × (t.lane ≡ l)

-- From any node to any other there is a walk. If the first leaf is neither, it is one of the strikes after it; if it is one of the two, its lane leads to the
-- node that it hangs on, and from there it is.
walked : {m n : ℕ} {ss : List Strike} → Peeled m n ss → Hung ss → (a b : ℕ) → Live ss a → Live ss b → Walked m ss a b
walked {m} bare hang a b la lb =
    let root : (k : ℕ) → Live [] k → k ≡ 0 = λ k. ⊎_elim (λ z. z) (λ (t, h, e). absurd (Memᴰ-not_nil h)) in
    record { lanes = []; walk = stay (root a la ∙ sym (root b lb)); apart = empty; used = λ l h. absurd (Memᴰ-not_nil h) }
walked {m} {n} (peel {s} {later} st rest) hang a b la lb =
    let again = walked rest (hung-later st hang) in
    let new : (t : Strike) × Memᴰ t later × (t.lane ≡ s.lane) → ⊥ = λ (t, h, e). lane-once st rest t h e in
    let on : (l : Lane) → (t : Strike) × Memᴰ t later × (t.lane ≡ l) → (t : Strike) × Memᴰ t (s ∷ later) × (t.lane ≡ l) =
    λ l (t, h, e). (t, Memᴰ-tail h, e) in
    let leave : s.leaf ≡ a → Walked m later s.other b → Walked m (s ∷ later) a b = λ e v. record {
      lanes = s.lane ∷ v.lanes;
      walk = walk-out st.ends e v.walk;
      apart = fresh (λ h. new (v.used s.lane h)) v.apart;
      used = λ l h. ⊎_elim (λ q. (s, Memᴰ-head refl, sym q)) (λ q. on l (v.used l q)) (Memᴰ-cases_cons h);
    } in
    let arrive : s.leaf ≡ b → Walked m later a s.other → Walked m (s ∷ later) a b = λ e v. record {
      lanes = v.lanes ++ (s.lane ∷ []);
      walk = walk-append v.walk (walk_in st.ends e);
      apart = apart-last s.lane (λ h. new (v.used s.lane h)) v.apart;
      used = λ l h. ⊎_elim (λ q. on l (v.used l q)) (λ q. (s, Memᴰ-head refl, sym (Memᴰ-eq_of_singleton q))) (Memᴰ-append_cases v.lanes h);
    } in
    by_cases (ℕ_discrete a b)
    (λ e. record { lanes = []; walk = stay e; apart = empty; used = λ l h. absurd (Memᴰ-not_nil h) })
    (λ d. by_cases (ℕ_discrete s.leaf a)
    (λ e. leave e (again s.other b (hung-first st hang) (live-later (λ q. d (sym e ∙ q)) lb)))
    (λ e. by_cases (ℕ_discrete s.leaf b)
    (λ f. arrive f (again a s.other (live-later e la) (hung-first st hang)))
    (λ f.
    let v = again a b (live-later e la) (live-later f lb) in
    record { lanes = v.lanes; walk = v.walk; apart = v.apart; used = λ l h. on l (v.used l h) })))

-- A walk from a row to the entering lane's column is a way round.
walk-way : {m : ℕ} {enter : Lane} {ls : List Lane} (k : Lane) → k.row < m → ((l : Lane) → Memᴰ l ls → l.row < m)
    → Walk m (m + enter.col) k.row ls → Way enter k ls
walk-way k h in_rows (stay e) = absurd (omega arith)
walk-way k h in_rows (up e rest) = absurd (omega arith)
walk-way k h in_rows (down {l} e (stay f)) = closes {l = l} (sym e) (omega arith)
walk-way k h in_rows (down e (down {l} f rest)) = absurd (omega (arith, in_rows l (Memᴰ-tail (Memᴰ-head refl))))
walk-way k h in_rows (down {l = g} e (up {l} f rest)) =
    let in_row = in_rows l (Memᴰ-tail (Memᴰ-head refl)) in
    goes {l = g} {p = l} (sym e) (omega arith) (walk-way l in_row (λ q r. in_rows q (Memᴰ-tail (Memᴰ-tail r))) rest)

-- ---- the signs round a loop

-- −1 and 1 in turn on the lanes of the list.
unfoldable turn : List Lane → ℕ → ℕ → Z
turn [] i j = nat 0
turn (l ∷ []) i j = on-lane l (neg (nat 1)) i j
turn (l ∷ p ∷ ls) i j = on-lane l (neg (nat 1)) i j ⊕ on-lane p (nat 1) i j ⊕ turn ls i j

turn-off : (ls : List Lane) (i j : ℕ) → ¬ Has ls i j → turn ls i j ≈ nat 0
unfolding turn
turn-off [] i j d = omega arith
turn-off (l ∷ []) i j d = on-lane-off l (neg (nat 1)) i j (λ e. d (Memᴰ-head e))
turn-off (l ∷ p ∷ ls) i j d =
    let first = on-lane-off l (neg (nat 1)) i j (λ e. d (Memᴰ-head e)) in
    let second = on-lane-off p (nat 1) i j (λ e. d (Memᴰ-tail (Memᴰ-head e))) in
    omega (arith, turn-off ls i j (λ h. d (Memᴰ-tail (Memᴰ-tail h))))

-- They leave −1 in the row where the way begins and −1 in the entering lane's column, and cancel elsewhere.
turn-row : {m n : ℕ} {enter k : Lane} {ls : List Lane} → Fits m n ls → Way enter k ls → (i : ℕ) → sum n (turn ls i) ≈ point k.row (neg (nat 1)) i
unfolding turn
turn-row {m} {n} h (closes {l} a b) i = rw (← a) (on-lane-row l (neg (nat 1)) n (h l (Memᴰ-head refl)).1 i)
turn-row {m} {n} h (goes {l} {p} {ls} a b rest) i =
    let three = sum-add n (λ j. on-lane l (neg (nat 1)) i j ⊕ on-lane p (nat 1) i j) (turn ls i) in
    let two = sum-add n (on-lane l (neg (nat 1)) i) (on-lane p (nat 1) i) in
    let first = on-lane-row l (neg (nat 1)) n (h l (Memᴰ-head refl)).1 i in
    let second = on-lane-row p (nat 1) n (h p (Memᴰ-tail (Memᴰ-head refl))).1 i in
    rw (← a) (omega (arith, turn-row (λ q r. h q (Memᴰ-tail (Memᴰ-tail r))) rest i, point-neg p.row i))

turn-column : {m n : ℕ} {enter k : Lane} {ls : List Lane} → Fits m n ls → Way enter k ls → (j : ℕ)
    → sum m (λ i. turn ls i j) ≈ point enter.col (neg (nat 1)) j
unfolding turn
turn-column {m} {n} h (closes {l} a b) j = rw (← b) (on-lane-column l (neg (nat 1)) m (h l (Memᴰ-head refl)).0 j)
turn-column {m} {n} h (goes {l} {p} {ls} a b rest) j =
    let same : point l.col (neg (nat 1)) j ≈ point p.col (neg (nat 1)) j = rw b (omega arith) in
    let three = sum-add m (λ i. on-lane l (neg (nat 1)) i j ⊕ on-lane p (nat 1) i j) (λ i. turn ls i j) in
    let two = sum-add m (λ i. on-lane l (neg (nat 1)) i j) (λ i. on-lane p (nat 1) i j) in
    let first = on-lane-column l (neg (nat 1)) m (h l (Memᴰ-head refl)).0 j in
    let second = on-lane-column p (nat 1) m (h p (Memᴰ-tail (Memᴰ-head refl))).0 j in
    omega (arith, turn-column (λ q r. h q (Memᴰ-tail (Memᴰ-tail r))) rest j, point-neg p.col j)

-- Signs that are 1 where the way begins and agree with them on it alternate.
turn-alternate : {sign_of : Lane → ℤ} {enter k : Lane} {ls : List Lane} → Way enter k ls → Apart ls → sign_of k ≡ pos 1
    → ((l : Lane) → Memᴰ l ls → turn ls l.row l.col ≈ to_z (sign_of l)) → Alternate sign_of (k ∷ ls)
unfolding turn
turn-alternate {sign_of} (closes {l} a b) s one h =
    pair one (eq-z (sign_of l) (negsuc 0) (omega (arith, h l (Memᴰ-head refl), on-lane-at l (neg (nat 1))))) none
turn-alternate {sign_of} (goes {l} {p} {ls} a b rest) (fresh d (fresh e s)) one h =
    let first = h l (Memᴰ-head refl) in
    let second = h p (Memᴰ-tail (Memᴰ-head refl)) in
    let p-off : (x : Lane) → x ≢ p → on-lane p (nat 1) x.row x.col ≈ nat 0 = λ x. on-lane-off p (nat 1) x.row x.col in
    let l-off : (x : Lane) → x ≢ l → on-lane l (neg (nat 1)) x.row x.col ≈ nat 0 = λ x. on-lane-off l (neg (nat 1)) x.row x.col in
    let l-rest = turn-off ls l.row l.col (λ q. d (Memᴰ-tail q)) in
    pair one (eq-z (sign_of l) (negsuc 0) (omega (arith, on-lane-at l (neg (nat 1)), p-off l (λ q. d (Memᴰ-head q)))))
    (turn-alternate rest s
    (eq-z (sign_of p) (pos 1) (omega (arith, l-off p (λ q. d (Memᴰ-head (sym q))), on-lane-at p (nat 1), turn-off ls p.row p.col e)))
    (λ x r.
    let here = h x (Memᴰ-tail (Memᴰ-tail r)) in
    omega (arith, l-off x (λ q. d (Memᴰ-tail (Memᴰ-cast (sym q) r))), p-off x (λ q. e (Memᴰ-cast (sym q) r)))))

alternate-sign : {sign_of : Lane → ℤ} {ls : List Lane} → Alternate sign_of ls → (l : Lane) → Memᴰ l ls → sign_of l ≢ pos 0
alternate-sign none l h z = Memᴰ-not_nil h
alternate-sign {sign_of} (pair a b rest) l h z = ⊎_elim
    (λ e. omega (arith, z-eq a, z-eq z, z-eq (ap sign_of e)))
    (λ k. ⊎_elim (λ e. omega (arith, z-eq b, z-eq z, z-eq (ap sign_of e))) (λ r. alternate-sign rest l r z) (Memᴰ-cases_cons k))
    (Memᴰ-cases_cons h)

-- ---- the theorem

module _ {P : Problem} {T : List Cell} (ok : Sound P) (w : Belongs P T) {enter : Lane} (hr : enter.row < sources P) (hc : enter.col < sinks P) where
  abbrev m : ℕ
  m = sources P

  abbrev n : ℕ
  n = sinks P

  abbrev B : List Lane
  B = basis_for T

  fits : Fits m n B
  fits = fits_of ok w

  basic-lane : (l : Lane) → Memᴰ l B → Basic T l.row l.col
  basic-lane l = (has-basic T l.row l.col).0

  lane-basic : (l : Lane) → Basic T l.row l.col → Memᴰ l B
  lane-basic l = (has-basic T l.row l.col).1

  -- With the basic lanes an entering lane that is not one of them closes a loop: there is a walk from its row to its column, and it leads back.
  loop_exists : ¬ Basic T enter.row enter.col → (others : List Lane) × Loop T enter others
  loop_exists new =
      let st : Struck m n B (strikes m n B) = struck_of ok.sources_low fits (spans_of ok w) in
      let v : Walked m (strikes m n B) enter.row (m + enter.col) = walked st.peels (struck-hung st) enter.row (m + enter.col)
      (struck-live st enter.row (omega arith)) (struck-live st (m + enter.col) (omega arith)) in
      let used : (l : Lane) → Memᴰ l v.lanes → Memᴰ l B = λ l k. let (t, r, e) = v.used l k in rw e at (st.lanes t r) in (
        v.lanes,
        record {
          way = walk-way enter hr (λ l k. (fits l (used l k)).0) v.walk;
          apart = fresh (λ k. new (basic-lane enter (used enter k))) v.apart;
          basic = λ l k. basic-lane l (used l k);
        },
      )

  -- The sign of a lane that does not enter is that of the basic cells.
  sign-other : (l : Lane) → l ≢ enter → loop_sign P T enter l ≡ basic_sign P T enter l
  unfolding loop_sign
  sign-other l d = rw (lane-other l enter d)

  sign-enter : loop_sign P T enter enter ≡ pos 1
  unfolding loop_sign
  sign-enter = rw (lane-same enter)

  -- On the lanes of any loop the signs are −1 and 1 in turn, and they are 0 off it: these are a flow with the margins of the signs, and no other flow has them.
  loop-agree : {others : List Lane} → Loop T enter others → (l : Lane) → Memᴰ l B → turn others l.row l.col ≈ to_z (basic_sign P T enter l)
  loop-agree {others} v l k =
      let inside : Fits m n others = λ l k. fits l (lane-basic l (v.basic l k)) in
      let turns : Flow m n (Has B) (turn others) (point enter.row (neg (nat 1))) (point enter.col (neg (nat 1))) = record {
        on = λ i j hi hj e. by_cases (member_dec (lane i j) others)
            (λ k. lane-basic (lane i j) (v.basic (lane i j) k))
            (λ d. absurd (e (turn-off others i j d)));
        rows = λ i l. turn-row inside v.way i;
        cols = λ j l. turn-column inside v.way j;
      } in
      flow-only ok.sources_low fits (spans_of ok w) ok.sinks_low turns (signs_of ok.sources_low fits (spans_of ok w) enter hr hc)
      l.row l.col (fits l k).0 (fits l k).1

  loop-alternate : {others : List Lane} → Loop T enter others → Alternate (loop_sign P T enter) (enter ∷ others)
  loop-alternate {others} v = go v.apart
    where
      go : Apart (enter ∷ others) → Alternate (loop_sign P T enter) (enter ∷ others)
      go (fresh d rest) = turn-alternate v.way rest sign-enter
          (λ l k. rw (sign-other l (λ e. d (Memᴰ-cast (sym e) k))) (loop-agree v l (lane-basic l (v.basic l k))))

  loop-off : {others : List Lane} → Loop T enter others → (l : Lane) → ¬ Memᴰ l (enter ∷ others) → loop_sign P T enter l ≡ pos 0
  loop-off {others} v l d = sign-other l (λ e. d (Memᴰ-head e)) ∙ by_cases (member_dec l B)
      (λ r. eq-z (basic_sign P T enter l) (pos 0) (omega (arith, loop-agree v l r, turn-off others l.row l.col (λ k. d (Memᴰ-tail k)))))
      (sign-off ok.sources_low fits (spans_of ok w) enter l)

  -- So there is one loop only: any two have the same lanes, those with a sign.
  loop-same : {others lanes : List Lane} → Loop T enter others → Loop T enter lanes → (l : Lane) → Memᴰ l lanes → Memᴰ l others
  loop-same {others} {lanes} v x l k = go x.apart
    where
      go : Apart (enter ∷ lanes) → Memᴰ l others
      go (fresh d rest) = by_cases (member_dec l others) (λ r. r) (λ r. absurd (alternate-sign (loop-alternate x) l (Memᴰ-tail k)
          (loop-off v l (λ h. ⊎_elim (λ e. d (Memᴰ-cast (sym e) k)) r (Memᴰ-cases_cons h)))))

  -- The sentence of the paper on the loop and its signs (`Statements.OneLoop`).
  pub one-loop : ¬ Basic T enter.row enter.col → OneLoop P T enter
  one-loop new =
      let (others, v) = loop_exists new in
      record { others = others; loop = v; one = λ lanes x l. (loop-same v x l, loop-same x v l); alternate = loop-alternate v; off = loop-off v }
