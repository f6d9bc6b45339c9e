-- The walk from one position, a character at a time: the loop of `prefixes_at`.
-- What is kept at each turn is `Walking`: what the whole walk meets is the edges that stand in the slices, and after them what the walk from the place
-- on meets. How the walk goes on is `cuts`'s law. A word there is one edge more; where the walk ends, or the room, or the book is damaged, the edges so far
-- are all that count.
-- Assumes nothing.
use Prim.Native.Nat.{ℕ, suc, ◌+◌, ◌-◌, ◌≤◌, ◌<◌}
use mathlib.Core.List.{List, ◌∷◌, ◌++◌}
use mathlib.Core.Path.{◌≡◌, refl, sym, ap, ◌∙◌}
use native.Mathlib.Nat.{le_refl, sub_self}
use native.Mathlib.Omega.{arith}
use lib.Ieee.{nan}
use lib.ListN.{length, get_or, set, take, drop, length-set, length-append}
use lib.Seq.{get_or-set_other}
use Rattle.std.specs.Prelude.{Result, Ok, Err, Some, None}
use Rattle.trie.specs.declared.ParentRef.{ParentRef}
use Rattle.trie.specs.declared.ParentRef.TheVariants.{Root}
use Rattle.trie.specs.Trie.{CharTrie, SlotTable, tested_step, word_at, trie_of, Step, WordNumber, damage}
use Rattle.book.specs.Returns.{Book}
use Rattle.book.specs.Prefixes.{Edge, Walked, ended, broken, words_from}
use Rattle.book.proofs.Held.{record_in_use}
use Rattle.route.specs.Slices.{edges_from}
use Rattle.cuts.specs.Slices.{SeenAs}
use Rattle.cuts.proofs.Walks.{Walk, at_root, at_end, at_nothing, at_damage, rest, on_from, past, at_bad, at_word}
use Rattle.prefixes.specs.declared.PrefixError.{PrefixError}
use Rattle.prefixes.specs.declared.PrefixError.TheVariants.{Full, Damaged}
use Rattle.prefixes.specs.Edges.{Kept, WalkedAt}
use Rattle.prefixes.proofs.Slices.{after, after_one, after_ended, after_broken, edges_long, push_edge, one_more}

-- ---- the loop

-- the edges in the places from `taken` up to `count`, and then what a walk meets, are what the walk from `at` meets
abbrev Follows : List ℕ → ℕ → ℕ → ℕ → ℕ → List ℕ → List ℕ → Book → Walked → Type 0
Follows chars n at taken count ends records b w =
    words_from b at (drop at (take n chars)) ≡ after (edges_from ends records b.logarithms taken (count - taken)) w

-- where it stands: at a place, before a character, with so many places taken
pub record Walking (roots slots : List ℕ) (used : ℕ) (chars : List ℕ)
    (n at room taken : ℕ) (ends₀ records₀ ends records : List ℕ) (count : ℕ) (place : ParentRef) (next : ℕ) : Type 0 where
  pub walk : Walk (Follows chars n at taken count ends records) roots slots used chars n at place next
  pub rising : taken ≤ count
  pub within : count ≤ room
  pub ends_long : length ends ≡ length ends₀
  pub records_long : length records ≡ length records₀
  pub ends_kept : Kept taken ends₀ ends
  pub records_kept : Kept taken records₀ records
  pub forward : (i : ℕ) → taken ≤ i → i < count → at < get_or ends i 0
  pub in_block : (i : ℕ) → taken ≤ i → i < count → get_or ends i 0 ≤ n
  pub known : (i : ℕ) → taken ≤ i → i < count → get_or records i 0 < used

-- at the root, before the first character
pub begins : (roots slots : List ℕ) (used : ℕ) (chars : List ℕ)
    (n at room taken : ℕ) (ends records : List ℕ)
    → at < n
    → taken ≤ room
    → Walking roots slots used chars n at room taken ends records ends records taken Root at
unfolding edges_from
begins roots slots used chars n at room taken ends records more fits =
    record {
      walk = at_root more (λ b seen. rw (sub_self taken));
      rising = le_refl taken;
      within = fits;
      ends_long = refl;
      records_long = refl;
      ends_kept = λ i h. refl;
      records_kept = λ i h. refl;
      forward = λ i first last. absurd (omega arith);
      in_block = λ i first last. absurd (omega arith);
      known = λ i first last. absurd (omega arith);
    }

module _ {roots slots : List ℕ} {used : ℕ} {chars : List ℕ}
    {n at room taken : ℕ} {ends₀ records₀ ends records : List ℕ} {count : ℕ} {place : ParentRef} {next : ℕ}
    (here : Walking roots slots used chars n at room taken ends₀ records₀ ends records count place next)
    (long : n ≤ length chars) where
  abbrev tables : CharTrie
  tables = trie_of roots slots

  -- the block's characters
  abbrev cs : List ℕ
  cs = take n chars

  -- the edges so far
  abbrev so_far : Book → List Edge
  so_far b = edges_from ends records b.logarithms taken (count - taken)

  so_many : (b : Book) → length (so_far b) ≡ count - taken
  so_many b = edges_long ends records b.logarithms taken (count - taken)

  -- what the function ensures, where it ends with r
  abbrev Ensured : Result ℕ PrefixError → Type 0
  Ensured r =
      ((b : Book) → b.trie ≡ tables → b.head.records ≡ used → WalkedAt b n at room taken (words_from b at (drop at cs)) ends records r)
      × (Kept taken ends₀ ends × Kept taken records₀ records)

  -- nothing more is met: the edges so far are all
  by_end : ((b : Book) → SeenAs b tables used → words_from b at (drop at cs) ≡ after (so_far b) ended) → Ensured (Ok count)
  by_end met = (
    λ b trie in_use. record {
      rising = here.rising;
      within = here.within;
      met = met b (record { same_trie = trie; records = in_use }) ∙ after_ended (so_far b);
      forward = here.forward;
      inside = here.in_block;
      known = λ i first last. rw in_use (here.known i first last);
    },
    (here.ends_kept, here.records_kept),
  )

  -- damage is next: there was room for the edges so far
  by_damage : ((b : Book) → SeenAs b tables used → words_from b at (drop at cs) ≡ after (so_far b) broken) → Ensured (Err Damaged)
  by_damage met = (
    λ b trie in_use.
        let all = met b (record { same_trie = trie; records = in_use }) ∙ after_broken (so_far b) in
        let many : length (words_from b at (drop at cs)).edges ≡ length (so_far b) = ap (λ (w : Walked). length w.edges) all in
        (omega (arith, many, so_many b, here.within), ap (λ (w : Walked). w.damaged) all),
    (here.ends_kept, here.records_kept),
  )

  -- the block ends
  pub ends_here : n ≤ next → Ensured (Ok count)
  ends_here beyond = by_end (at_end here.walk long beyond)

  -- there is a character, and its step is taken
  module _ {r : Step} (more : next < n)
      (step : r ≡ tested_step (trie_of roots slots) place (get_or chars next 0)) where
    -- no step leads on
    pub ends_nothing : r ≡ Ok None → Ensured (Ok count)
    ends_nothing e = by_end (at_nothing here.walk long more step e)

    -- a probe has no end
    pub ends_damaged : r ≡ Err damage → Ensured (Err Damaged)
    ends_damaged e = by_damage (at_damage here.walk long more step e)

    -- the step leads to a place, and the word number there is read
    module _ {q : ParentRef} (stepped : r ≡ Ok (Some q)) {number : WordNumber}
        (read : number ≡ word_at used (trie_of roots slots) q) where
      -- a bad word number
      pub ends_bad : number ≡ Err damage → Ensured (Err Damaged)
      ends_bad e = by_damage (at_bad here.walk long more step stepped read e)

      -- no word ends there
      pub goes_on : {shift : ℕ} → SlotTable (length slots) shift
          → number ≡ Ok None
          → Walking roots slots used chars n at room taken ends₀ records₀ ends records count q (next + 1)
      goes_on allowed e =
          record {
            walk = past here.walk long more step stepped read allowed e;
            rising = here.rising;
            within = here.within;
            ends_long = here.ends_long;
            records_long = here.records_long;
            ends_kept = here.ends_kept;
            records_kept = here.records_kept;
            forward = here.forward;
            in_block = here.in_block;
            known = here.known;
          }

      -- a word ends there
      module _ {k : ℕ} (word : number ≡ Ok (Some k)) where
        pub in_use_record : k < used
        in_use_record = record_in_use used k tables q (sym read ∙ word)

        -- the word's edge, and what the walk on from its place meets
        abbrev edge_of : Book → Edge
        edge_of b = record { end = next + 1; logarithm = get_or b.logarithms k nan }

        abbrev onward : Book → Walked
        onward b = rest here.walk long more step stepped b

        -- the word finds no place
        pub ends_full : room ≤ count → Ensured (Err Full)
        ends_full full = (
          λ b trie in_use.
              let all = at_word here.walk long more step stepped read word b (record { same_trie = trie; records = in_use }) in
              let met = ap (λ (w : Walked). length w.edges) all in
              let many : length (so_far b ++ (edge_of b ∷ (onward b).edges)) ≡ length (so_far b) + suc (length (onward b).edges) = length-append (so_far b) _ in
              omega (arith, met, many, so_many b, here.rising),
          (here.ends_kept, here.records_kept),
        )

        -- the word's edge is written
        pub goes_on_behind : {shift : ℕ} → SlotTable (length slots) shift
            → count < room
            → room ≤ length ends₀
            → room ≤ length records₀
            → Walking roots slots used chars n at room taken ends₀ records₀
            (set ends count (next + 1)) (set records count k) (count + 1) q (next + 1)
        goes_on_behind allowed free in_ends in_records =
            let free_end : count < length ends = omega (arith, here.ends_long) in
            let free_record : count < length records = omega (arith, here.records_long) in
            record {
              walk =
                  on_from here.walk long more step stepped allowed
                  (λ b seen.
                  at_word here.walk long more step stepped read word b seen
                  ∙ after_one (so_far b) (edge_of b) (onward b)
                  ∙ ap (λ (es : List Edge). after es (onward b))
                  (sym (push_edge ends records b.logarithms taken count (next + 1) k here.rising free_end free_record)));
              rising = omega (arith, here.rising);
              within = omega arith;
              ends_long = length-set ends count (next + 1) ∙ here.ends_long;
              records_long = length-set records count k ∙ here.records_long;
              ends_kept = λ i h. get_or-set_other ends count i (next + 1) 0 (omega (arith, here.rising)) ∙ here.ends_kept i h;
              records_kept = λ i h. get_or-set_other records count i k 0 (omega (arith, here.rising)) ∙ here.records_kept i h;
              forward = one_more (λ (x : ℕ). at < x) ends taken count (next + 1) free_end (omega (arith, here.walk.first)) here.forward;
              in_block = one_more (λ (x : ℕ). x ≤ n) ends taken count (next + 1) free_end (omega arith) here.in_block;
              known = one_more (λ (x : ℕ). x < used) records taken count k free_record in_use_record here.known;
            }
