-- The write that changes the ledger, and the first kind of it: a held word's record gets the new frequency.
-- Either kind leaves every other node's word number and every other record as they were, so both go by one lemma, `words_entered`: the word's node has
-- a record with the new frequency and its logarithm, no other node has that record, and no other word's frequency in the ledger is changed. The total
-- loses the old frequency, which is at most the sum, and gains the new one. `NewRecords` has the second kind.
-- Assumes nothing.
use mathlib.Core.Path.{◌≡◌, refl, sym, ap, ◌∙◌}
use mathlib.Core.Bool.{Bool, true, false}
use mathlib.Core.Logic.{◌≢◌}
use mathlib.Core.List.{List, reverse, reverse-reverse}
use mathlib.Core.Option.{some}
use Prim.Native.Nat.{ℕ, ◌+◌, ◌-◌, ◌<◌, ◌≤◌}
use native.Mathlib.Omega.{arith}
use borrow.Author.Tests.{eqb-true, eqb-false}
use lib.Dec.{eqb}
use lib.Ieee.{nan}
use lib.ListN.{length, get_or, length-set}
use lib.Seq.{get_or-set_same, get_or-set_other}
use Rattle.std.specs.Prelude.{Ok, Err, Some}
use Rattle.trie.specs.declared.ParentRef.{ParentRef}
use Rattle.trie.specs.Trie.{CharTrie, word_at, WordNumber, damage}
use Rattle.score.specs.Logarithm.{log_float}
use Rattle.book.specs.Returns.{Book, cell_frequency, frequency_at, greatest_total}
use Rattle.book.specs.Enter.{cell_with_frequency, replaced}
use Rattle.book.proofs.Areas.{other_frequency}
use Rattle.built.specs.Ledger.{Entry, frequency_in, enter_in}
use Rattle.built.specs.Built.{Tree, Agrees, not_entered, in_record, NodeOf, Words, Records, Built}
use Rattle.built.proofs.Ledgers.{Compared, same, other, compare_words, entered_has, others_kept, or_zero, sum_entered, frequency_most, once_kept}
use Rattle.built.proofs.Steps.{same_name}

-- a word's record is in use, and holds the ledger's frequency
pub record_holds : {b : Book} {ledger : List Entry} {word : List ℕ} {n : ℕ} → Agrees b ledger word (Ok (Some n))
    → (n < b.head.records) × (frequency_in ledger word ≡ some (frequency_at b n))
record_holds (in_record h e l) = (h, e)

-- ---- the words after a word has entered

compare : (m n : ℕ) → Compared m n
compare m n = go _ refl
  where
    go : (t : Bool) → eqb m n ≡ t → Compared m n
    go true t = same (eqb-true m n t)
    go false t = other (eqb-false m n t)

-- b' and t' have record n for the word at node m, with this frequency; all other nodes and records are as in b and t
pub record WordWritten (b b' : Book) (t t' : CharTrie) (next : ℕ) (place : ℕ → ParentRef) (m n frequency : ℕ) : Type 0 where
  pub here : word_at b'.head.records t' (place m) ≡ Ok (Some n)
  pub used : n < b'.head.records
  pub more : b.head.records ≤ b'.head.records
  pub its_frequency : frequency_at b' n ≡ frequency
  pub its_logarithm : get_or b'.logarithms n nan ≡ log_float frequency
  pub frequency_kept : (i : ℕ) → i ≢ n → frequency_at b' i ≡ frequency_at b i
  pub logarithm_kept : (i : ℕ) → i ≢ n → get_or b'.logarithms i nan ≡ get_or b.logarithms i nan
  pub number_kept : (k : ℕ) → k < next → k ≢ m → word_at b.head.records t (place k) ≢ Err damage
      → word_at b'.head.records t' (place k) ≡ word_at b.head.records t (place k)
  pub apart : (k : ℕ) → k < next → k ≢ m → word_at b.head.records t (place k) ≢ Ok (Some n)

module _ {b b' : Book} {ledger : List Entry} {t t' : CharTrie} {next : ℕ} {name : ℕ → List ℕ} {place : ℕ → ParentRef}
    (tree : Tree t next name place) (words : Words b ledger t next name place)
    (word : List ℕ) {m n frequency : ℕ} (known : m < next) (named : name m ≡ reverse word) (w : WordWritten b b' t t' next place m n frequency) where
  word_is : reverse (name m) ≡ word
  word_is = ap reverse named ∙ reverse-reverse word

  -- another node has another word
  other_word : (k : ℕ) → k < next → k ≢ m → word ≢ reverse (name k)
  other_word k h ne e = ne (same_name tree (name m) k m h known (sym (reverse-reverse (name k)) ∙ ap reverse (sym e) ∙ sym named) refl)

  not_bad : (k : ℕ) → k < next → word_at b.head.records t (place k) ≢ Err damage
  not_bad k h e = go _ (words.agrees k h) e
    where
      go : (number : WordNumber) → Agrees b ledger (reverse (name k)) number → number ≡ Err damage → ⊥
      go number (not_entered f) e = let z : ◌≡◌ {A = ℕ} 0 1 = cc in omega arith
      go number (in_record h f l) e = let z : ◌≡◌ {A = ℕ} 0 1 = cc in omega arith

  kept : (k : ℕ) → k < next → k ≢ m → word_at b'.head.records t' (place k) ≡ word_at b.head.records t (place k)
  kept k h ne = w.number_kept k h ne (not_bad k h)

  still_agrees : (k : ℕ) → k < next → k ≢ m → (number : WordNumber) → word_at b.head.records t (place k) ≡ number → Agrees b ledger (reverse (name k)) number
      → Agrees b' (enter_in ledger word frequency) (reverse (name k)) number
  still_agrees k h ne number e (not_entered f) = not_entered (others_kept ledger word frequency (reverse (name k)) (other_word k h ne) ∙ f)
  still_agrees k h ne number e (in_record {n = i} l f g) =
      let differ : i ≢ n = λ q. w.apart k h ne (e ∙ ap (λ (x : ℕ). Ok (Some x)) q) in
      let same_frequency : frequency_at b' i ≡ frequency_at b i = w.frequency_kept i differ in
      let more = w.more in
      let within : i < b'.head.records = omega arith in
      in_record within (others_kept ledger word frequency (reverse (name k)) (other_word k h ne) ∙ f ∙ ap some (sym same_frequency))
      (w.logarithm_kept i differ ∙ g ∙ ap log_float (sym same_frequency))

  new_agrees : Agrees b' (enter_in ledger word frequency) word (Ok (Some n))
  new_agrees = in_record w.used (entered_has ledger word frequency ∙ ap some (sym w.its_frequency))
      (w.its_logarithm ∙ ap log_float (sym w.its_frequency))

  pub words_entered : Words b' (enter_in ledger word frequency) t' next name place
  words_entered = record {
    agrees = λ k h. agrees_by k h (compare k m);
    entered = λ v f e. entered_by v f e (compare_words word v);
    own = λ j k i hj hk ej ek. own_by j k i hj hk (compare j m) (compare k m) ej ek;
  }
    where
      agrees_by : (k : ℕ) → k < next → Compared k m → Agrees b' (enter_in ledger word frequency) (reverse (name k)) (word_at b'.head.records t' (place k))
      agrees_by k h (same e) = rw (e, w.here, word_is) new_agrees
      agrees_by k h (other ne) = rw (kept k h ne) (still_agrees k h ne _ refl (words.agrees k h))

      entered_by : (v : List ℕ) (f : ℕ) → frequency_in (enter_in ledger word frequency) v ≡ some f → Compared word v → NodeOf next name v
      entered_by v f e (same q) = record { node = m; known = known; named = named ∙ ap reverse q }
      entered_by v f e (other ne) = words.entered v f (sym (others_kept ledger word frequency v ne) ∙ e)

      moved : (j i : ℕ) → j < next → j ≢ m → word_at b'.head.records t' (place j) ≡ Ok (Some i) → i ≡ n → ⊥
      moved j i h ne e q = w.apart j h ne (sym (kept j h ne) ∙ e ∙ ap (λ (x : ℕ). Ok (Some x)) q)

      own_by : (j k i : ℕ) → j < next → k < next → Compared j m → Compared k m
          → word_at b'.head.records t' (place j) ≡ Ok (Some i) → word_at b'.head.records t' (place k) ≡ Ok (Some i) → j ≡ k
      own_by j k i hj hk (same p) (same q) ej ek = p ∙ sym q
      own_by j k i hj hk (same p) (other q) ej ek =
          let its : word_at b'.head.records t' (place m) ≡ Ok (Some i) = rw p at ej in
          let new = w.here in
          let i_is : i ≡ n = cc in
          absurd (moved k i hk q ek i_is)
      own_by j k i hj hk (other p) (same q) ej ek =
          let its : word_at b'.head.records t' (place m) ≡ Ok (Some i) = rw q at ek in
          let new = w.here in
          let i_is : i ≡ n = cc in
          absurd (moved j i hj p ej i_is)
      own_by j k i hj hk (other p) (other q) ej ek = words.own j k i hj hk (sym (kept j hj p) ∙ ej) (sym (kept k hk q) ∙ ek)

-- ---- a held word's record gets the new frequency

module _ {b : Book} {ledger : List Entry} (built : Built b ledger) (word : List ℕ) (m n frequency total : ℕ) (known : m < b.head.next)
    (named : built.name m ≡ reverse word)
    (its_record : word_at b.head.records b.trie (built.place m) ≡ Ok (Some n)) (agrees : Agrees b ledger word (Ok (Some n)))
    (total_is : total ≡ b.head.total - frequency_at b n + frequency) (total_most : total ≤ greatest_total) where
  abbrev place : ℕ → ParentRef
  place = built.place

  used : n < b.head.records
  used = (record_holds agrees).0

  old_frequency : frequency_in ledger word ≡ some (frequency_at b n)
  old_frequency = (record_holds agrees).1

  inside : n < length b.records
  inside = omega (arith, used, built.records.used)

  -- what is written to the record's cell
  abbrev cell : ℕ
  cell = cell_with_frequency (get_or b.records n 0) frequency

  abbrev after : Book
  after = replaced b n frequency total

  replaced_written : WordWritten b after b.trie b.trie b.head.next place m n frequency
  unfolding replaced
  replaced_written = record {
    here = its_record;
    used = used;
    more = omega arith;
    its_frequency = ap cell_frequency (get_or-set_same b.records n cell 0 inside) ∙ other_frequency _ frequency (omega arith);
    its_logarithm = get_or-set_same b.logarithms n (log_float frequency) nan (rw built.records.logarithms inside);
    frequency_kept = λ i ne. ap cell_frequency (get_or-set_other b.records n i cell 0 ne);
    logarithm_kept = λ i ne. get_or-set_other b.logarithms n i (log_float frequency) nan ne;
    number_kept = λ k h ne good. refl;
    apart = λ k h ne e. ne (built.tables.words.own k m n h known e its_record);
  }

  replaced_records : Records after (enter_in ledger word frequency)
  unfolding replaced
  replaced_records =
      let r = built.records in
      let long = length-set b.records n cell in
      let sum = sum_entered ledger word frequency in
      let old : or_zero (frequency_in ledger word) ≡ frequency_at b n = ap or_zero old_frequency in
      let most = frequency_most ledger word in
      record {
        records_least = rw long r.records_least;
        records_most = rw long r.records_most;
        logarithms = length-set b.logarithms n (log_float frequency) ∙ r.logarithms ∙ sym long;
        used = rw long r.used;
        total = omega (arith, r.total);
        total_most = total_most;
        once = once_kept ledger word frequency r.once;
      }

  pub replaced_built : Built after (enter_in ledger word frequency)
  unfolding replaced
  replaced_built = record {
    name = built.name;
    place = place;
    tables = record {
      sizes = built.tables.sizes;
      tree = built.tables.tree;
      store = built.tables.store;
      words = words_entered built.tables.tree built.tables.words word known named replaced_written;
    };
    records = replaced_records;
  }
