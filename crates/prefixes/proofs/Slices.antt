-- Edges and rows in slices that grow. A list of edges reads only the places that it goes through, so a write behind them keeps it; and a write at the
-- first place behind them makes it one edge longer. The rows of positions are lists of edges, and go the same way.
-- Assumes nothing.
use Prim.Native.Nat.{ℕ, zero, suc, ◌+◌, ◌-◌, ◌≤◌, ◌<◌}
use mathlib.Core.Bool.{Bool, true, false}
use mathlib.Core.List.{List, [], ◌∷◌, ◌++◌, append_assoc, append-nil}
use mathlib.Core.Path.{◌≡◌, refl, sym, ap, ◌∙◌, subst}
use native.Mathlib.Nat.{le_refl, add-zero}
use native.Mathlib.Omega.{arith}
use lib.Ieee.{Float, nan}
use lib.ListN.{length, get_or, set}
use lib.Seq.{get_or-set_same, get_or-set_other}
use Rattle.score.proofs.Tests.{by_leb}
use Rattle.book.specs.Prefixes.{Edge, Walked, ended, broken}
use Rattle.route.specs.Slices.{edges_from, edges_at, rows_from}

-- ---- the edges of a position

-- the edge at a place
abbrev pub edge_at : List ℕ → List ℕ → List Float → ℕ → Edge
edge_at ends records logarithms place = record { end = get_or ends place 0; logarithm = get_or logarithms (get_or records place 0) nan }

pub edges_long : (ends records : List ℕ) (logarithms : List Float) (place count : ℕ) → length (edges_from ends records logarithms place count) ≡ count
unfolding edges_from
edges_long ends records logarithms place zero = refl
edges_long ends records logarithms place (suc count) = ap suc (edges_long ends records logarithms (place + 1) count)

-- slices that agree at the edges' places have the same edges there
pub edges_same : (ends records ends' records' : List ℕ) (logarithms : List Float) (place count : ℕ)
    → ((i : ℕ) → place ≤ i → i < place + count → get_or ends' i 0 ≡ get_or ends i 0)
    → ((i : ℕ) → place ≤ i → i < place + count → get_or records' i 0 ≡ get_or records i 0)
    → edges_from ends' records' logarithms place count ≡ edges_from ends records logarithms place count
unfolding edges_from
edges_same ends records ends' records' logarithms place zero same_ends same_records = refl
edges_same ends records ends' records' logarithms place (suc count) same_ends same_records =
    rw (same_ends place (le_refl place) (omega arith), same_records place (le_refl place) (omega arith))
    (ap (λ (es : List Edge). edge_at ends records logarithms place ∷ es)
    (edges_same ends records ends' records' logarithms (place + 1) count
    (λ i first last. same_ends i (omega arith) (omega arith))
    (λ i first last. same_records i (omega arith) (omega arith))))

-- one edge more stands behind the others
edges_one_more : (ends records : List ℕ) (logarithms : List Float) (place count : ℕ)
    → edges_from ends records logarithms place (suc count)
    ≡ edges_from ends records logarithms place count ++ (edge_at ends records logarithms (place + count) ∷ [])
unfolding edges_from
edges_one_more ends records logarithms place zero = rw (add-zero place)
edges_one_more ends records logarithms place (suc count) =
    let onward : place + 1 + count ≡ place + suc count = omega arith in
    ap (λ (es : List Edge). edge_at ends records logarithms place ∷ es)
    (edges_one_more ends records logarithms (place + 1) count
    ∙ ap (λ (k : ℕ). edges_from ends records logarithms (place + 1) count ++ (edge_at ends records logarithms k ∷ [])) onward)

-- an edge is written at the first free place
module _ (ends records : List ℕ) (logarithms : List Float) (from count end n : ℕ) (rising : from ≤ count) where
  edges_behind : edges_from (set ends count end) (set records count n) logarithms from (count - from) ≡ edges_from ends records logarithms from (count - from)
  edges_behind =
      edges_same ends records (set ends count end) (set records count n) logarithms from (count - from)
      (λ i first last. get_or-set_other ends count i end 0 (omega arith))
      (λ i first last. get_or-set_other records count i n 0 (omega arith))

  pub push_edge : count < length ends
      → count < length records
      → edges_from (set ends count end) (set records count n) logarithms from (count + 1 - from)
      ≡ edges_from ends records logarithms from (count - from) ++ (record { end = end; logarithm = get_or logarithms n nan } ∷ [])
  push_edge ends_long records_long =
      let more : count + 1 - from ≡ suc (count - from) = omega arith in
      let there : from + (count - from) ≡ count = omega arith in
      rw more
      (edges_one_more (set ends count end) (set records count n) logarithms from (count - from)
      ∙ rw (edges_behind, there, get_or-set_same ends count end 0 ends_long, get_or-set_same records count n 0 records_long))

-- what holds of the places from one up to another holds of one place more, where it holds of what is written there
pub one_more : (P : ℕ → Type 0) (xs : List ℕ) (from count x : ℕ)
    → count < length xs
    → P x
    → ((i : ℕ) → from ≤ i → i < count → P (get_or xs i 0))
    → (i : ℕ) → from ≤ i → i < count + 1 → P (get_or (set xs count x) i 0)
one_more P xs from count x long new old i first last =
    by_leb count i (λ (t : Bool). P (get_or (set xs count x) i 0))
    (λ h.
    let here : count ≡ i = omega arith in
    subst (λ (k : ℕ). P (get_or (set xs count x) k 0)) here (rw (get_or-set_same xs count x 0 long) new))
    (λ h. rw (get_or-set_other xs count i x 0 (omega arith)) (old i first h))

-- ---- the edges of each position

pub rows_same : (starts ends records starts' ends' records' : List ℕ) (logarithms : List Float) (i count : ℕ)
    → ((k : ℕ) → i ≤ k → k < i + count → edges_at starts' ends' records' logarithms k ≡ edges_at starts ends records logarithms k)
    → rows_from starts' ends' records' logarithms i count ≡ rows_from starts ends records logarithms i count
unfolding rows_from
rows_same starts ends records starts' ends' records' logarithms i zero same = refl
rows_same starts ends records starts' ends' records' logarithms i (suc count) same =
    ap (λ (es : List Edge). es ∷ rows_from starts' ends' records' logarithms (i + 1) count) (same i (le_refl i) (omega arith))
    ∙ ap (λ (rows : List (List Edge)). edges_at starts ends records logarithms i ∷ rows)
    (rows_same starts ends records starts' ends' records' logarithms (i + 1) count (λ k first last. same k (omega arith) (omega arith)))

-- one row more stands behind the others
pub rows_one_more : (starts ends records : List ℕ) (logarithms : List Float) (i count : ℕ)
    → rows_from starts ends records logarithms i (suc count)
    ≡ rows_from starts ends records logarithms i count ++ (edges_at starts ends records logarithms (i + count) ∷ [])
unfolding rows_from
rows_one_more starts ends records logarithms i zero = rw (add-zero i)
rows_one_more starts ends records logarithms i (suc count) =
    let onward : i + 1 + count ≡ i + suc count = omega arith in
    ap (λ (rows : List (List Edge)). edges_at starts ends records logarithms i ∷ rows)
    (rows_one_more starts ends records logarithms (i + 1) count
    ∙ ap (λ (k : ℕ). rows_from starts ends records logarithms (i + 1) count ++ (edges_at starts ends records logarithms k ∷ [])) onward)

-- ---- a walk, after edges that it has met

abbrev pub after : List Edge → Walked → Walked
after es w = record { edges = es ++ w.edges; damaged = w.damaged }

pub after_one : (es : List Edge) (e : Edge) (w : Walked) → after es (record { edges = e ∷ w.edges; damaged = w.damaged }) ≡ after (es ++ (e ∷ [])) w
after_one es e w = ap (λ (all : List Edge). record { edges = all; damaged = w.damaged }) (sym (append_assoc es (e ∷ []) w.edges))

pub after_ended : (es : List Edge) → after es ended ≡ record { edges = es; damaged = false }
after_ended es = ap (λ (all : List Edge). record { edges = all; damaged = false }) (append-nil es)

pub after_broken : (es : List Edge) → after es broken ≡ record { edges = es; damaged = true }
after_broken es = ap (λ (all : List Edge). record { edges = all; damaged = true }) (append-nil es)
