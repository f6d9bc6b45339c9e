-- `BestInBuiltBooks` and `ShortestInBuiltBooks`.
-- The rows of a block by the ledger (`Rows`) lead forward and have an entry for each character, so with a total of at least 1 they are a block of the
-- route's claims (`route_best`, `route_exact`). The total is the sum over the ledger, so with a total of 0 each of its frequencies is 0, and the first
-- word of a row is chosen (`shortest_at_total_zero`).
-- Assumes nothing.
use mathlib.Core.Path.{◌≡◌, refl, sym, ◌∙◌, subst}
use mathlib.Core.Bool.{Bool, true, false, cond}
use mathlib.Core.List.Memᴰ
use mathlib.Core.List.{List, [], ◌∷◌, Memᴰ}
use mathlib.Core.Option.{some}
use Prim.Native.Nat.{ℕ, ◌≤◌}
use native.Mathlib.Omega.{arith}
use lib.ListN.{length, get_or, take, drop}
use Rattle.book.specs.Returns.{longest_text}
use Rattle.built.specs.Ledger.{Entry, same_word, frequency_in, sum_of}
use Rattle.built.proofs.Claims.{total_is_sum}
use Rattle.best_route.specs.Paths.{Word, Forward, Block}
use Rattle.best_route.specs.Claims.{Rising}
use Rattle.best_route.proofs.Exact.{route_exact}
use Rattle.best_route.proofs.Paths.{route_best}
use Rattle.best_route.proofs.TotalZero.{shortest_at_total_zero}
use Rattle.built_cuts.specs.Claims.{HeldAt, HeldRows, BestRoute, BestInBuiltBooks, ShortestAt, ShortestInBuiltBooks}
use Rattle.built_cuts.proofs.Rows.{block_words}

-- ---- the best route

pub rows_forward : (ledger : List Entry) (cs : List ℕ) (rows : List (List Word)) → HeldRows ledger cs rows → Forward 0 rows
rows_forward ledger cs rows held position w m =
    let its = held.each_held position w m in (
      omega (arith, its.ends, its.one_or_more),
      omega (arith, its.ends, its.inside, held.positions),
    )

pub best_route : (total : ℕ) (ledger : List Entry) (cs : List ℕ) (rows : List (List Word))
    → HeldRows ledger cs rows → 1 ≤ total → length cs ≤ longest_text → BestRoute total rows
best_route total ledger cs rows held counted short =
    let block : Block total 0 rows = record { counted = counted; short = omega (arith, held.positions); forward = rows_forward ledger cs rows held } in
    let exactly = route_exact total 0 rows block in
    record { block = block; best = route_best total rows block; exact = exactly.0; whole = exactly.1 }

pub best_in_built_books : BestInBuiltBooks
best_in_built_books b ledger by counted cs s short =
    let words = block_words b ledger by cs s in
    record { words = words; route = best_route b.head.total ledger cs words.rows words.held (omega arith) (omega arith) }

-- ---- the shortest word

-- with a sum of 0 over the ledger, each of its words has the frequency 0
none_counted : (ledger : List Entry) (word : List ℕ) (frequency : ℕ) → sum_of ledger ≡ 0 → frequency_in ledger word ≡ some frequency → frequency ≡ 0
unfolding sum_of frequency_in
none_counted [] word frequency nothing entered = let z : ◌≡◌ {A = ℕ} 0 1 = cc in absurd (omega arith)
none_counted (e ∷ es) word frequency nothing entered =
    by (same_word e.word word) entered (none_counted es word frequency (omega arith))
  where
    by : (same : Bool) → cond same (some e.frequency) (frequency_in es word) ≡ some frequency
        → (frequency_in es word ≡ some frequency → frequency ≡ 0) → frequency ≡ 0
    by true q later = let its : e.frequency ≡ frequency = cc in omega arith
    by false q later = later q

-- and so has each word of the rows
pub none_in_rows : (ledger : List Entry) (cs : List ℕ) (rows : List (List Word)) → HeldRows ledger cs rows → sum_of ledger ≡ 0
    → (k : ℕ) (v : Word) → Memᴰ v (get_or rows k []) → v.frequency ≡ 0
none_in_rows ledger cs rows held nothing k v m =
    let of_v = held.each_held k v m in
    none_counted ledger (take of_v.size (drop k cs)) v.frequency nothing of_v.entered

shortest_at : (total : ℕ) (ledger : List Entry) (cs : List ℕ) (rows : List (List Word))
    → HeldRows ledger cs rows → total ≡ sum_of ledger → total ≡ 0
    → (position : ℕ) (w : Word) → HeldAt ledger cs position w → ShortestAt total ledger cs rows position
shortest_at total ledger cs rows held sum nothing position w its = by (get_or rows position []) refl (held.none_missing position w its)
  where
    all_zero : (k : ℕ) (v : Word) → Memᴰ v (get_or rows k []) → v.frequency ≡ 0
    all_zero = none_in_rows ledger cs rows held (sym sum ∙ nothing)

    by : (row : List Word) → get_or rows position [] ≡ row → Memᴰ w row → ShortestAt total ledger cs rows position
    by [] here m = absurd (Memᴰ.not-nil m)
    by (first ∷ others) here m =
        let chosen = shortest_at_total_zero 0 rows all_zero position first others here (subst Rising here (held.rising position)) in
        record {
          shortest = first;
          held = held.each_held position first (subst (Memᴰ first) (sym here) (Memᴰ.head refl));
          none_shorter = λ v of_v. chosen.1 v (subst (Memᴰ v) here (held.none_missing position v of_v));
          taken = rw nothing chosen.0;
        }

pub shortest_in_built_books : ShortestInBuiltBooks
shortest_in_built_books b ledger by nothing cs s =
    let words = block_words b ledger by cs s in
    record { words = words; route = shortest_at b.head.total ledger cs words.rows words.held (total_is_sum b ledger by).0 (omega arith) }
