-- The decision, by what the walks answer.
-- Assumes nothing.
use mathlib.Core.Path.{◌≡◌, refl, ap, ◌∙◌}
use mathlib.Core.Bool.{Bool, true, false, cond}
use mathlib.Core.List.{List, [], ◌∷◌}
use mathlib.Core.Option.{Option, none, some, IsSome}
use Prim.Native.Nat.{ℕ, suc, ◌≤◌}
use native.Mathlib.Omega.{arith}
use lib.ListN.{length}
use Rattle.std.specs.Prelude.{Result, Ok, Err, Some, None}
use Rattle.utf8.specs.Text.{chars_of}
use Rattle.utf8.proofs.Texts.{no_more_than_bytes}
use Rattle.trie.specs.declared.Damaged.{Damaged}
use Rattle.trie.specs.declared.ParentRef.{ParentRef}
use Rattle.trie.specs.declared.ParentRef.TheVariants.{Root}
use Rattle.trie.specs.Trie.{CharTrie, open_step, from_root, word_at, Reach, Reached, NoEnd, reach, new_slots, get_of, Step, WordNumber}
use Rattle.walk.specs.declared.Room.{Room}
use Rattle.walk.specs.declared.Room.TheVariants.{Whole, Partly}
use Rattle.walk.specs.Walk.{got_of, new_steps, room_at, room_from, room_of}
use Rattle.book.specs.declared.Refusal.{Refusal}
use Rattle.book.specs.Returns.{Book}
use Rattle.book.specs.Enter.{decide_held, decide_new, decide_reached, decide_absent, decide, Decision}
use Rattle.decision.specs.Texts.{absent_text, decide_text}

-- the decision by what a new word finds
abbrev pub by_room : Book → Result Room Damaged → ℕ → Decision
by_room b (Err d) frequency = Err Refusal.Damaged
by_room b (Ok (Whole (Err d))) frequency = Err Refusal.Damaged
by_room b (Ok (Whole (Ok w))) frequency = decide_new b 0 0 frequency
by_room b (Ok (Partly slots nodes)) frequency = decide_new b slots nodes frequency

by_reach : (b : Book) (r : Reach) (frequency : ℕ) → by_room b (room_at b.head.records b.trie r) frequency ≡ decide_absent b r frequency
unfolding room_at new_steps
by_reach b NoEnd frequency = refl
by_reach b (Reached p (c ∷ cs)) frequency = refl
by_reach b (Reached p []) frequency = go (word_at b.head.records b.trie p)
  where
    go : (w : WordNumber) → by_room b (Ok (Whole w)) frequency ≡ decide_reached b p [] w frequency
    go (Ok None) = refl
    go (Ok (Some n)) = refl
    go (Err d) = refl

by_room_lem : (b : Book) (o : Option (List ℕ)) (frequency : ℕ) → IsSome o → by_room b (room_of b.head.records b.trie o) frequency ≡ absent_text b o frequency
unfolding absent_text room_from
by_room_lem b none frequency h = absurd h
by_room_lem b (some cs) frequency h = by_reach b (reach b.trie Root cs) frequency

pub decided_by_room : (b : Book) (o : Option (List ℕ)) (frequency : ℕ) (r : Result Room Damaged) → IsSome o → r ≡ room_of b.head.records b.trie o
    → by_room b r frequency ≡ absent_text b o frequency
decided_by_room b o frequency r h e = ap (λ (x : Result Room Damaged). by_room b x frequency) e ∙ by_room_lem b o frequency h

-- ---- the steps that a word takes are no more than its bytes

left_over : (t : CharTrie) (p q : ParentRef) (cs rest : List ℕ) → reach t p cs ≡ Reached q rest → length rest ≤ length cs
unfolding reach
left_over t p q [] rest e = let h : [] ≡ rest = cc in rw (← h) (omega arith)
left_over t p q (c ∷ cs) rest e = go (open_step t p c) refl (λ r. left_over t r q cs rest)
  where
    go : (s : Step) → open_step t p c ≡ s → ((r : ParentRef) → reach t r cs ≡ Reached q rest → length rest ≤ length cs) → length rest ≤ length (c ∷ cs)
    go (Ok (Some r)) f ih = let h = ih r (rw (f, reach) at e) in omega arith
    go (Ok None) f ih = let g : Reached p (c ∷ cs) ≡ Reached q rest = rw (f, reach) at e in let h : c ∷ cs ≡ rest = cc in rw (← h) (omega arith)
    go (Err d) f ih = let g : NoEnd ≡ Reached q rest = rw (f, reach) at e in let z : ◌≡◌ {A = ℕ} 0 1 = cc in absurd (omega arith)

slots_nodes : (t : CharTrie) (p : ParentRef) (cs : List ℕ) → new_slots t p cs ≤ length cs
unfolding new_slots
slots_nodes t p [] = omega arith
slots_nodes t p (c ∷ cs) = go (from_root t p c)
  where
    go : (b : Bool) → cond b (length cs) (suc (length cs)) ≤ length (c ∷ cs)
    go true = omega arith
    go false = omega arith

room_of_lem : (used : ℕ) (t : CharTrie) (cs : List ℕ) (slots nodes : ℕ) (r : Reach) → reach t Root cs ≡ r → room_at used t r ≡ Ok (Partly slots nodes)
    → (slots ≤ length cs) × (nodes ≤ length cs)
unfolding room_at new_steps
room_of_lem used t cs slots nodes NoEnd e f = let z : ◌≡◌ {A = ℕ} 0 1 = cc in absurd (omega arith)
room_of_lem used t cs slots nodes (Reached p []) e f = let z : ◌≡◌ {A = ℕ} 0 1 = cc in absurd (omega arith)
room_of_lem used t cs slots nodes (Reached p (c ∷ rest)) e f =
    let l = left_over t Root p cs (c ∷ rest) e in
    let n = slots_nodes t p (c ∷ rest) in
    let es : new_slots t p (c ∷ rest) ≡ slots = cc in
    let en : length (c ∷ rest) ≡ nodes = cc in
    (omega arith, omega arith)

by_text : (used : ℕ) (t : CharTrie) (bs : List ℕ) (o : Option (List ℕ)) (slots nodes : ℕ) → chars_of bs ≡ o → room_of used t o ≡ Ok (Partly slots nodes)
    → (slots ≤ length bs) × (nodes ≤ length bs)
unfolding room_from
by_text used t bs none slots nodes q f = let z : ◌≡◌ {A = ℕ} 0 1 = cc in absurd (omega arith)
by_text used t bs (some cs) slots nodes q f =
    let p = room_of_lem used t cs slots nodes (reach t Root cs) refl f in
    let c = no_more_than_bytes bs cs q in
    (omega arith, omega arith)

pub room_small : (used : ℕ) (t : CharTrie) (bs : List ℕ) (slots nodes : ℕ) → room_of used t (chars_of bs) ≡ Ok (Partly slots nodes)
    → (slots ≤ length bs) × (nodes ≤ length bs)
room_small used t bs slots nodes f = by_text used t bs (chars_of bs) slots nodes refl f

-- ---- the decision by the lookup

abbrev pub by_got : Book → Option (List ℕ) → WordNumber → ℕ → Decision
by_got b o (Ok (Some n)) frequency = decide_held b n frequency
by_got b o (Ok None) frequency = absent_text b o frequency
by_got b o (Err d) frequency = Err Refusal.Damaged

by_got_lem : (b : Book) (o : Option (List ℕ)) (frequency : ℕ) → IsSome o → by_got b o (got_of b.head.records b.trie o) frequency ≡ decide_text b o frequency
unfolding decide_text got_of absent_text decide
by_got_lem b none frequency h = absurd h
by_got_lem b (some cs) frequency h = go (get_of b.head.records b.trie cs) refl
  where
    go : (g : WordNumber) → get_of b.head.records b.trie cs ≡ g → by_got b (some cs) (get_of b.head.records b.trie cs) frequency ≡ decide b cs frequency
    go (Ok (Some n)) e = rw (e, decide)
    go (Ok None) e = rw (e, decide)
    go (Err d) e = rw (e, decide)

pub decided_by_got : (b : Book) (o : Option (List ℕ)) (frequency : ℕ) (g : WordNumber) → IsSome o → g ≡ got_of b.head.records b.trie o
    → by_got b o g frequency ≡ decide_text b o frequency
decided_by_got b o frequency g h e = ap (λ (x : WordNumber). by_got b o x frequency) e ∙ by_got_lem b o frequency h
