-- Every call keeps the invariant, with the ledger fed by the call's text, its frequency and its answer; and no call answers with damage.
-- A refused addition leaves book and ledger as they were. A load enters line by line; its line number tells how many lines were entered before it
-- stopped, so the ledger has just those. Over a list of calls it goes by induction from the empty book.
-- Assumes nothing.
use Rattle.std.specs.Prelude.{Ok, Err}
use mathlib.Core.Path.{◌≡◌, refl, sym, ap, ◌∙◌, subst}
use mathlib.Core.Bool.{Bool, true, false, cond}
use mathlib.Core.Logic.{◌≢◌}
use mathlib.Core.List.{List, [], ◌∷◌}
use mathlib.Core.Option.{Option, none, some}
use Prim.Native.Nat.{ℕ, suc, ◌+◌}
use native.Mathlib.Omega.{arith}
use borrow.Author.Tests.{ne_eqb, eqb-true, eqb-false}
use lib.Dec.{eqb, leb}
use lib.ListN.{length, take}
use lib.Seq.{take-length}
use Rattle.utf8.specs.Text.{chars_of}
use Rattle.lines.specs.Lines.{lines_of, Meaning, malformed, blank, bad_frequency, entry, meaning_of}
use Rattle.book.specs.declared.Entering.TheVariants.{Replace, Insert}
use Rattle.book.specs.declared.Refusal.TheVariants.{TooLong, Malformed, BadFrequency}
use Rattle.book.specs.Returns.{number_of, Book, longest_text, greatest_total, empty_book, Outcome}
use Rattle.book.specs.Enter.{decide, replaced, inserted, AddAnswer, add_refused, add_by, add_chars, add_of, LoadAnswer, load_answer, enter, load_lines, load_of, Decision}
use Rattle.built.specs.Ledger.{Entry, enter_in, ledger_after_add, enter_line, enter_lines, lines_before, ledger_after_load}
use Rattle.built.specs.Calls.{Call, Load, Add, answer_of, book_after, ledger_after, book_after_all, answers_of, ledger_after_all, allowed_sizes, book_from}
use Rattle.built.specs.Calls.{answers_from, ledger_from}
use Rattle.built.specs.Built.{Built}
use Rattle.built.specs.Claims.{NoneDamaged}
use Rattle.built.proofs.LineWords.{text_characters, line_word}
use Rattle.built.proofs.Entering.{head_undamaged, sizes_allowed, Decided, refuses, replaces, inserts, decided, enter_decided}
use Rattle.built.proofs.EmptyBook.{empty_built}

-- ---- an addition

module _ {b : Book} {ledger : List Entry} (built : Built b ledger) (text : List ℕ) (frequency : ℕ) where
  -- what an addition's answer leaves
  abbrev AddKept : AddAnswer → Type 0
  AddKept a = Built a.book (ledger_after_add ledger text frequency a.outcome) × (number_of a.outcome ≢ 8)

  add_refused_lem : (o : Outcome) → number_of o ≢ 0 → number_of o ≢ 8 → AddKept (add_refused b o)
  unfolding ledger_after_add
  add_refused_lem o refused undamaged = (rw (ne_eqb _ _ refused) built, undamaged)

  add_decided : (c : ℕ) (cs : List ℕ) → chars_of text ≡ some (c ∷ cs) → (d : Decision) → Decided built (c ∷ cs) frequency d
      → AddKept (add_by b (c ∷ cs) frequency d)
  unfolding ledger_after_add
  add_decided c cs e d (refuses {x} refused undamaged) = add_refused_lem (Err x) refused undamaged
  add_decided c cs e d (replaces h) = (rw e h, (λ q. omega arith))
  add_decided c cs e d (inserts h) = (rw e h, (λ q. omega arith))

  add_word : (c : ℕ) (cs : List ℕ) → chars_of text ≡ some (c ∷ cs) → AddKept (add_chars b (some (c ∷ cs)) frequency)
  add_word c cs e = rw (head_undamaged built) (go (leb frequency greatest_total))
    where
      go : (t : Bool) → AddKept (cond t (add_by b (c ∷ cs) frequency (decide b (c ∷ cs) frequency)) (add_refused b (Err BadFrequency)))
      go true = add_decided c cs e _ (decided built (c ∷ cs) frequency (λ q. let z : ◌≡◌ {A = ℕ} 0 1 = cc in omega arith) (text_characters text (c ∷ cs) e))
      go false = add_refused_lem (Err BadFrequency) (λ q. omega arith) (λ q. omega arith)

  add_chars_lem : (o : Option (List ℕ)) → chars_of text ≡ o → AddKept (add_chars b o frequency)
  unfolding ledger_after_add
  add_chars_lem none e = add_refused_lem (Err Malformed) (λ q. omega arith) (λ q. omega arith)
  add_chars_lem (some []) e = (rw e built, (λ q. omega arith))
  add_chars_lem (some (c ∷ cs)) e = add_word c cs e

  pub add_kept : AddKept (add_of b text frequency)
  unfolding add_of
  add_kept = rw (sizes_allowed built) (go (leb (length text) longest_text))
    where
      go : (t : Bool) → AddKept (cond t (add_chars b (chars_of text) frequency) (add_refused b (Err TooLong)))
      go true = add_chars_lem (chars_of text) refl
      go false = add_refused_lem (Err TooLong) (λ q. omega arith) (λ q. omega arith)

-- ---- a load's lines

-- what a load does at a line, by its meaning, and at a word, by the decision
abbrev by_decision : Book → ℕ → List (List ℕ) → List ℕ → ℕ → Decision → LoadAnswer
by_decision b n ls word frequency (Err x) = load_answer (Err x) (n + 1) b
by_decision b n ls word frequency (Ok (Replace r total)) = load_lines (replaced b r frequency total) (n + 1) ls
by_decision b n ls word frequency (Ok (Insert slots nodes total)) = load_lines (inserted b word frequency slots nodes total) (n + 1) ls

abbrev by_meaning : Book → ℕ → List (List ℕ) → Meaning → LoadAnswer
by_meaning b n ls malformed = load_answer (Err Malformed) (n + 1) b
by_meaning b n ls blank = load_lines b (n + 1) ls
by_meaning b n ls bad_frequency = load_answer (Err BadFrequency) (n + 1) b
by_meaning b n ls (entry word frequency) = by_decision b n ls word frequency (enter b word frequency)

load_line_lem : (b : Book) (n : ℕ) (l : List ℕ) (ls : List (List ℕ)) → load_lines b n (l ∷ ls) ≡ by_meaning b n ls (meaning_of l)
unfolding load_lines
load_line_lem b n l ls = go (meaning_of l)
  where
    decision : (word : List ℕ) (frequency : ℕ) (d : Decision)
        → ◌≡◌ {A = LoadAnswer} (elim d [
          | Err x ↦ load_answer (Err x) (n + 1) b
          | Ok (Replace r total) ↦ load_lines (replaced b r frequency total) (n + 1) ls
          | Ok (Insert slots nodes total) ↦ load_lines (inserted b word frequency slots nodes total) (n + 1) ls
        ]) (by_decision b n ls word frequency d)
    decision word frequency (Err x) = refl
    decision word frequency (Ok (Replace r total)) = refl
    decision word frequency (Ok (Insert slots nodes total)) = refl

    go : (m : Meaning)
        → ◌≡◌ {A = LoadAnswer} (elim m [
          | malformed ↦ load_answer (Err Malformed) (n + 1) b
          | blank ↦ load_lines b (n + 1) ls
          | bad_frequency ↦ load_answer (Err BadFrequency) (n + 1) b
          | entry word frequency ↦ elim (enter b word frequency) [
            | Err x ↦ load_answer (Err x) (n + 1) b
            | Ok (Replace r total) ↦ load_lines (replaced b r frequency total) (n + 1) ls
            | Ok (Insert slots nodes total) ↦ load_lines (inserted b word frequency slots nodes total) (n + 1) ls
          ]
        ]) (by_meaning b n ls m)
    go malformed = refl
    go blank = refl
    go bad_frequency = refl
    go (entry word frequency) = decision word frequency (enter b word frequency)

-- after n lines a load reads these: so many are entered, all where it is done, and else those before the line that it returns
record LinesKept (ledger : List Entry) (n : ℕ) (ls : List (List ℕ)) (a : LoadAnswer) : Type 0 where
  entered : ℕ
  built : Built a.book (enter_lines ledger (take entered ls))
  undamaged : number_of a.outcome ≢ 8
  all_entered : number_of a.outcome ≡ 0 → entered ≡ length ls
  line_after : number_of a.outcome ≢ 0 → a.line ≡ n + entered + 1

-- a line passed over or entered, before the others
line_kept : {ledger : List Entry} {n : ℕ} {l : List ℕ} {ls : List (List ℕ)} {a : LoadAnswer} (m : Meaning)
    → meaning_of l ≡ m → LinesKept (enter_line ledger m) (n + 1) ls a → LinesKept ledger n (l ∷ ls) a
unfolding enter_lines
line_kept {ledger} {ls = ls} {a = a} m e k = record {
  entered = suc k.entered;
  built = subst (λ (x : Meaning). Built a.book (enter_lines (enter_line ledger x) (take k.entered ls))) (sym e) k.built;
  undamaged = k.undamaged;
  all_entered = λ q. ap suc (k.all_entered q);
  line_after = λ q. let its = k.line_after q in omega arith;
}

module _ {b : Book} {ledger : List Entry} (built : Built b ledger) (n : ℕ) where
  -- a line refused
  line_refused : {l : List ℕ} {ls : List (List ℕ)} (o : Outcome) → number_of o ≢ 0 → number_of o ≢ 8 → LinesKept ledger n (l ∷ ls) (load_answer o (n + 1) b)
  unfolding enter_lines
  line_refused o refused undamaged = record {
    entered = 0;
    built = built;
    undamaged = undamaged;
    all_entered = λ e. absurd (refused e);
    line_after =
        λ e. omega arith;
  }

  -- no line left
  no_line : LinesKept ledger n [] (load_lines b n [])
  unfolding load_lines enter_lines
  no_line = record { entered = 0; built = built; undamaged = λ e. omega arith; all_entered = λ e. refl; line_after = λ e. absurd (e refl) }

  module _ (l : List ℕ) (ls : List (List ℕ)) (others : (c : Book) (m : List Entry) → Built c m → LinesKept m (n + 1) ls (load_lines c (n + 1) ls)) where
    decided_kept : (word : List ℕ) (frequency : ℕ) → meaning_of l ≡ entry word frequency → (d : Decision) → Decided built word frequency d
        → LinesKept ledger n (l ∷ ls) (by_decision b n ls word frequency d)
    decided_kept word frequency e d (refuses {x} refused undamaged) = line_refused (Err x) refused undamaged
    decided_kept word frequency e d (replaces h) = line_kept (entry word frequency) e (others _ (enter_in ledger word frequency) h)
    decided_kept word frequency e d (inserts h) = line_kept (entry word frequency) e (others _ (enter_in ledger word frequency) h)

    meaning_kept : (m : Meaning) → meaning_of l ≡ m → LinesKept ledger n (l ∷ ls) (by_meaning b n ls m)
    meaning_kept malformed e = line_refused (Err Malformed) (λ q. omega arith) (λ q. omega arith)
    meaning_kept blank e = line_kept blank e (others b ledger built)
    meaning_kept bad_frequency e = line_refused (Err BadFrequency) (λ q. omega arith) (λ q. omega arith)
    meaning_kept (entry word frequency) e =
        let w = line_word l word frequency e in
        decided_kept word frequency e (enter b word frequency) (enter_decided built word frequency w.0 w.1)

lines_kept : (ls : List (List ℕ)) (b : Book) (ledger : List Entry) → Built b ledger → (n : ℕ) → LinesKept ledger n ls (load_lines b n ls)
lines_kept [] b ledger built n = no_line built n
lines_kept (l ∷ ls) b ledger built n =
    subst (LinesKept ledger n (l ∷ ls)) (sym (load_line_lem b n l ls)) (meaning_kept built n l ls (λ c m h. lines_kept ls c m h (n + 1)) (meaning_of l) refl)

-- ---- a load

module _ {b : Book} {ledger : List Entry} (built : Built b ledger) (text : List ℕ) where
  abbrev LoadKept : LoadAnswer → Type 0
  LoadKept a = Built a.book (ledger_after_load ledger text a.outcome a.line) × (number_of a.outcome ≢ 8)

  -- done, or refused at a line
  load_lines_lem : (a : LoadAnswer) → LinesKept ledger 0 (lines_of text) a → LoadKept a
  unfolding ledger_after_load
  load_lines_lem a k = (go (eqb (number_of a.outcome) 0) refl, k.undamaged)
    where
      go : (t : Bool) → eqb (number_of a.outcome) 0 ≡ t → Built a.book (ledger_after_load ledger text a.outcome a.line)
      go true done =
          let every : take k.entered (lines_of text) ≡ lines_of text = ap (λ (n : ℕ). take n (lines_of text)) (k.all_entered (eqb-true _ _ done))
          ∙ take-length (lines_of text) in
          rw done (subst (λ (ls : List (List ℕ)). Built a.book (enter_lines ledger ls)) every k.built)
      go false refused =
          let line : a.line ≡ 0 + k.entered + 1 = k.line_after (eqb-false _ _ refused) in
          let before : k.entered ≡ lines_before a.line = omega arith in
          rw refused (subst (λ (n : ℕ). Built a.book (enter_lines ledger (take n (lines_of text)))) before k.built)

  -- a text that is too long: no line
  load_too_long : LoadKept (load_answer (Err TooLong) 0 b)
  unfolding ledger_after_load enter_lines
  load_too_long = (built, (λ q. omega arith))

  pub load_kept : LoadKept (load_of b text)
  unfolding load_of
  load_kept = rw (sizes_allowed built) (go (leb (length text) longest_text))
    where
      go : (t : Bool) → LoadKept (cond t (load_lines b 0 (lines_of text)) (load_answer (Err TooLong) 0 b))
      go true = load_lines_lem (load_lines b 0 (lines_of text)) (lines_kept (lines_of text) b ledger built 0)
      go false = load_too_long

-- ---- lists of calls

call_kept : (b : Book) (ledger : List Entry) → Built b ledger → (call : Call)
    → Built (book_after b call) (ledger_after ledger call (answer_of b call)) × (number_of (answer_of b call).outcome ≢ 8)
unfolding book_after ledger_after answer_of
call_kept b ledger built (Load text) = load_kept built text
call_kept b ledger built (Add text frequency) = add_kept built text frequency

calls_kept : (calls : List Call) (b : Book) (ledger : List Entry) → Built b ledger
    → Built (book_after_all b calls) (ledger_after_all ledger calls (answers_of b calls)) × NoneDamaged (answers_of b calls)
unfolding book_after_all ledger_after_all answers_of
calls_kept [] b ledger built = (built, tt)
calls_kept (call ∷ calls) b ledger built =
    let one = call_kept b ledger built call in
    let others = calls_kept calls (book_after b call) (ledger_after ledger call (answer_of b call)) one.0 in
    (others.0, ((λ e. one.1 (ap number_of e)), others.1))

module _ (roots slots records : ℕ) (calls : List Call) (sizes : allowed_sizes roots slots records) where
  pub built_by_calls : Built (book_from roots slots records calls) (ledger_from roots slots records calls)
  built_by_calls = (calls_kept calls (empty_book roots slots records) [] (empty_built roots slots records sizes)).0

  pub none_damaged : NoneDamaged (answers_from roots slots records calls)
  none_damaged = (calls_kept calls (empty_book roots slots records) [] (empty_built roots slots records sizes)).1
