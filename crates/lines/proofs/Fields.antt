-- Fields, by the positions at which white space begins and ends.
-- A text is its leading white space, then a field up to the next white space, then the fields of the rest. The bytes of each part follow one another, so
-- a position after a part's bytes has the characters after it.
-- Assumes nothing.
use mathlib.Core.Path.{◌≡◌, refl, sym, ap, ◌∙◌}
use mathlib.Core.Bool.{Bool, true, false, not, beq}
use mathlib.Core.List.{List, [], ◌∷◌, ◌++◌}
use mathlib.Core.Option.{Option, none, some, IsSome}
use Prim.Native.Nat.{ℕ, ◌+◌, ◌-◌, ◌≤◌}
use native.Mathlib.Omega.{arith}
use lib.ListN.{length, take, drop}
use Rattle.classes.specs.WhiteSpace.{white_space}
use Rattle.utf8.specs.Characters.{char, character_at}
use Rattle.utf8.specs.Encoding.{encode, byte_length}
use Rattle.utf8.specs.Text.{before, chars_of, chars_from}
use Rattle.utf8.proofs.Positions.{from_char, from_end, width_of, byte_length_cons, from_second, first_bytes, within_text, none_left}
use Rattle.std.specs.Prelude.{Option as CodeOption, Some, None}
use Rattle.lines.specs.declared.Field.{Field}
use Rattle.lines.specs.Lines.{onto, take_while, drop_while, pieces, non_empty, fields_of, past, space_is, field_from, field_at}

-- ---- the first characters that pass a test, and the rest

pub take_drop_while : (p : ℕ → Bool) (cs : List ℕ) → take_while p cs ++ drop_while p cs ≡ cs
take_drop_while p [] = refl
take_drop_while p (c ∷ cs) = go (p c) refl (take_drop_while p cs)
  where
    go : (t : Bool) → p c ≡ t → take_while p cs ++ drop_while p cs ≡ cs → take_while p (c ∷ cs) ++ drop_while p (c ∷ cs) ≡ c ∷ cs
    go true e ih = rw e (ap (λ (l : List ℕ). c ∷ l) ih)
    go false e ih = rw e

-- ---- stepping over them

module _ (p : ℕ → Bool) (s : List ℕ) (at : ℕ) where
  past_more : (c w : ℕ) (o : Option (List ℕ)) → length (encode c) ≡ w → IsSome (before c o) → p c ≡ true → past p (at + w) o ≡ past p at (before c o)
  past_more c w none l h e = absurd h
  past_more c w (some cs) l h e =
      let q : length (encode c) + byte_length (take_while p cs) ≡ byte_length (c ∷ take_while p cs) = sym (byte_length_cons c (take_while p cs)) in
      rw e (omega arith)

  past_none : (c : ℕ) (o : Option (List ℕ)) → IsSome (before c o) → p c ≡ false → at ≡ past p at (before c o)
  unfolding byte_length
  past_none c none h e = absurd h
  past_none c (some cs) h e = rw e (omega arith)

  module _ (h : IsSome (chars_from s at)) (c w u : ℕ) (r : character_at s at ≡ char c w u) where
    first : chars_from s at ≡ before c (chars_from s (at + w))
    first = from_char s at c w u r

    pub pass : p c ≡ true → past p (at + w) (chars_from s (at + w)) ≡ past p at (chars_from s at)
    pass e = rw first (past_more c w (chars_from s (at + w)) (width_of s at c w u r) (rw first at h) e)

    pub stop : p c ≡ false → at ≡ past p at (chars_from s at)
    stop e = rw first (past_none c (chars_from s (at + w)) (rw first at h) e)

  pub stop_end : length s ≤ at → at ≡ past p at (chars_from s at)
  unfolding byte_length
  stop_end h = rw (from_end s at h) (omega arith)

-- the code's test: whether a character is white space, compared with what is to be skipped
pub alike : (r b : Bool) (c : ℕ) → r ≡ white_space c → not (beq r b) ≡ false → space_is b c ≡ true
alike true true c e t = sym e
alike true false c e t = ap not (sym e) ∙ sym t
alike false true c e t = sym e ∙ sym t
alike false false c e t = ap not (sym e)

pub unlike : (r b : Bool) (c : ℕ) → r ≡ white_space c → not (beq r b) ≡ true → space_is b c ≡ false
unlike true true c e t = sym e ∙ sym t
unlike true false c e t = ap not (sym e)
unlike false true c e t = sym e
unlike false false c e t = ap not (sym e) ∙ sym t

-- ---- fields by the white space around them

abbrev pub non_space : ℕ → Bool
non_space c = not (white_space c)

-- the pieces after the first, by what stands from the white space on that ends it
abbrev pieces_after : List ℕ → List (List ℕ)
pieces_after [] = []
pieces_after (c ∷ cs) = pieces cs

pieces_first : (cs : List ℕ) → pieces cs ≡ take_while non_space cs ∷ pieces_after (drop_while non_space cs)
unfolding pieces
pieces_first [] = refl
pieces_first (c ∷ cs) = go (white_space c) refl (pieces_first cs)
  where
    go : (t : Bool) → white_space c ≡ t → pieces cs ≡ take_while non_space cs ∷ pieces_after (drop_while non_space cs)
        → pieces (c ∷ cs) ≡ take_while non_space (c ∷ cs) ∷ pieces_after (drop_while non_space (c ∷ cs))
    go true e ih = rw (e, pieces)
    go false e ih = rw (e, pieces) (ap (onto c) ih)

-- white space before the fields means nothing
pub fields_space : (c : ℕ) (cs : List ℕ) → white_space c ≡ true → fields_of (c ∷ cs) ≡ fields_of cs
unfolding fields_of pieces
fields_space c cs e = rw (e, pieces)

pub fields_drop : (cs : List ℕ) → fields_of (drop_while white_space cs) ≡ fields_of cs
fields_drop [] = refl
fields_drop (c ∷ cs) = go (white_space c) refl (fields_drop cs)
  where
    go : (t : Bool) → white_space c ≡ t → fields_of (drop_while white_space cs) ≡ fields_of cs → fields_of (drop_while white_space (c ∷ cs)) ≡ fields_of (c ∷ cs)
    go true e ih = rw e (ih ∙ sym (fields_space c cs e))
    go false e ih = rw e

-- from the white space that ends a field on, the fields are those of the pieces after it
fields_after : (cs : List ℕ) → non_empty (pieces_after (drop_while non_space cs)) ≡ fields_of (drop_while non_space cs)
unfolding fields_of pieces
fields_after [] = refl
fields_after (c ∷ cs) = go (white_space c) refl (fields_after cs)
  where
    go : (t : Bool) → white_space c ≡ t → non_empty (pieces_after (drop_while non_space cs)) ≡ fields_of (drop_while non_space cs)
        → non_empty (pieces_after (drop_while non_space (c ∷ cs))) ≡ fields_of (drop_while non_space (c ∷ cs))
    go true e ih = rw e (sym (fields_space c cs e))
    go false e ih = rw e ih

-- a text that begins with no white space begins with its first field
pub fields_first : (c : ℕ) (cs : List ℕ) → white_space c ≡ false → fields_of (c ∷ cs) ≡ take_while non_space (c ∷ cs) ∷ fields_of (drop_while non_space (c ∷ cs))
fields_first c cs e = by_pieces ∙ rw e (ap (λ (l : List (List ℕ)). (c ∷ take_while non_space cs) ∷ l) (fields_after cs))
  where
    by_pieces : fields_of (c ∷ cs) ≡ non_empty (take_while non_space (c ∷ cs) ∷ pieces_after (drop_while non_space (c ∷ cs)))
    by_pieces = unfold fields_of in ap non_empty (pieces_first (c ∷ cs))

-- what is left after white space begins with none
pub begins : (cs ds : List ℕ) (d : ℕ) → drop_while white_space cs ≡ d ∷ ds → white_space d ≡ false
begins [] ds d e = let z : ◌≡◌ {A = ℕ} 0 1 = cc in absurd (omega arith)
begins (c ∷ cs) ds d e = go (white_space c) refl (begins cs ds d)
  where
    go : (t : Bool) → white_space c ≡ t → (drop_while white_space cs ≡ d ∷ ds → white_space d ≡ false) → white_space d ≡ false
    go true q ih = ih (rw q at e)
    go false q ih = let p : c ∷ cs ≡ d ∷ ds = rw q at e in let h : c ≡ d = cc in rw (← h) q

-- ---- a field at a position

pub same_field : {a b c d : ℕ} → field_from a b ≡ field_from c d → (a ≡ c) × (b ≡ d)
same_field e = (
  ap (λ (o : CodeOption Field). elim o [ Some r ↦ r.start | None ↦ 0 ]) e,
  ap (λ (o : CodeOption Field). elim o [ Some r ↦ r.end | None ↦ 0 ]) e,
)

-- of a text whose characters from `at` on are cs: the first field stands from a to b, and the other fields are those from b on
pub record FieldFound (s cs : List ℕ) (at a b : ℕ) : Type 0 where
  pub word : List ℕ
  pub rest : List ℕ
  pub fields : fields_of cs ≡ word ∷ fields_of rest
  pub starts : a ≡ at + byte_length (take_while white_space cs)
  pub ends : b ≡ a + byte_length word
  pub inside : b ≤ length s
  pub bytes : chars_of (take (b - a) (drop a s)) ≡ some word
  pub after : chars_from s b ≡ some rest

module _ (s : List ℕ) (at : ℕ) (cs : List ℕ) (e : chars_from s at ≡ some cs) (h : at ≤ length s) where
  whole : chars_from s at ≡ some (take_while white_space cs ++ drop_while white_space cs)
  whole = e ∙ ap some (sym (take_drop_while white_space cs))

  start : ℕ
  start = at + byte_length (take_while white_space cs)

  start_is : past white_space at (chars_from s at) ≡ start
  unfolding start
  start_is = rw e

  from_start : chars_from s start ≡ some (drop_while white_space cs)
  unfolding start
  from_start = from_second s at (take_while white_space cs) (drop_while white_space cs) whole

  start_in : start ≤ length s
  unfolding start
  start_in = let p = within_text s at (take_while white_space cs) (drop_while white_space cs) whole h in omega arith

  no_fields : drop_while white_space cs ≡ [] → fields_of cs ≡ []
  unfolding fields_of pieces
  no_fields q = sym (fields_drop cs) ∙ ap fields_of q

  pub missing : (a : ℕ) → a ≡ past white_space at (chars_from s at) → a ≡ length s → None ≡ field_at at (chars_from s at)
  missing a q l =
      let z : chars_from s start ≡ some [] = from_end s start (omega (arith, start_is)) in
      let n : drop_while white_space cs ≡ [] = cc from_start in
      rw (e, no_fields n)

  module _ (d : ℕ) (ds : List ℕ) (q : drop_while white_space cs ≡ d ∷ ds) where
    split : fields_of cs ≡ take_while non_space (d ∷ ds) ∷ fields_of (drop_while non_space (d ∷ ds))
    split = sym (fields_drop cs) ∙ ap fields_of q ∙ fields_first d ds (begins cs ds d q)

    field_whole : chars_from s start ≡ some (take_while non_space (d ∷ ds) ++ drop_while non_space (d ∷ ds))
    field_whole = from_start ∙ ap some (q ∙ sym (take_drop_while non_space (d ∷ ds)))

    field_end : past non_space start (chars_from s start) ≡ start + byte_length (take_while non_space (d ∷ ds))
    field_end = rw (from_start, q)

    field_found : FieldFound s cs at start (start + byte_length (take_while non_space (d ∷ ds)))
    unfolding start
    field_found = record {
      word = take_while non_space (d ∷ ds);
      rest = drop_while non_space (d ∷ ds);
      fields = split;
      starts = refl;
      ends = refl;
      inside = let p = within_text s start (take_while non_space (d ∷ ds)) (drop_while non_space (d ∷ ds)) field_whole start_in in omega arith;
      bytes =
          let n : start + byte_length (take_while non_space (d ∷ ds)) - start ≡ byte_length (take_while non_space (d ∷ ds)) = omega arith in
          rw n (first_bytes s start (take_while non_space (d ∷ ds)) (drop_while non_space (d ∷ ds)) field_whole);
      after = from_second s start (take_while non_space (d ∷ ds)) (drop_while non_space (d ∷ ds)) field_whole;
    }

    pub found_here : (a b : ℕ) → a ≡ past white_space at (chars_from s at) → b ≡ past non_space a (chars_from s a) → field_from a b ≡ field_at at (chars_from s at)
    unfolding start
    found_here a b ea eb =
        let sa : a ≡ start = ea ∙ start_is in
        let sb : b ≡ start + byte_length (take_while non_space (d ∷ ds)) = eb ∙ ap (λ (x : ℕ). past non_space x (chars_from s x)) sa ∙ field_end in
        rw (sa, sb, e, split)

    at_found : (a b : ℕ) → field_at at (chars_from s at) ≡ field_from a b → FieldFound s cs at a b
    unfolding start
    at_found a b f =
        let g : field_from start (start + byte_length (take_while non_space (d ∷ ds))) ≡ field_from a b = rw (e, split) at f in
        let same = same_field g in
        rw (← same.0, ← same.1) field_found

  by_rest : (ds : List ℕ) → drop_while white_space cs ≡ ds → (a b : ℕ) → field_at at (chars_from s at) ≡ field_from a b → FieldFound s cs at a b
  by_rest [] q a b f = let g : None ≡ field_from a b = rw (e, no_fields q) at f in let z : ◌≡◌ {A = ℕ} 0 1 = cc in absurd (omega arith)
  by_rest (d ∷ ds) q a b f = at_found d ds q a b f

  -- what `next_field` found
  pub field_at_lem : (a b : ℕ) → field_at at (chars_from s at) ≡ field_from a b → FieldFound s cs at a b
  field_at_lem a b f = by_rest (drop_while white_space cs) refl a b f

  by_none : (ds : List ℕ) → drop_while white_space cs ≡ ds → field_at at (chars_from s at) ≡ None → fields_of cs ≡ []
  by_none [] q f = no_fields q
  by_none (d ∷ ds) q f =
      let g : field_from start (start + byte_length (take_while non_space (d ∷ ds))) ≡ None = unfold start in rw (e, split d ds q) at f in
      let z : ◌≡◌ {A = ℕ} 0 1 = cc in absurd (omega arith)

  pub none_at : field_at at (chars_from s at) ≡ None → fields_of cs ≡ []
  none_at f = by_none (drop_while white_space cs) refl f

  by_left : (a b : ℕ) (ds : List ℕ) → drop_while white_space cs ≡ ds → a ≡ past white_space at (chars_from s at) → (a ≡ length s → ⊥)
      → b ≡ past non_space a (chars_from s a) → field_from a b ≡ field_at at (chars_from s at)
  by_left a b [] q ea l eb =
      let n : length s ≤ start = none_left s start (from_start ∙ ap some q) in
      let i : start ≤ length s = start_in in
      let sa : a ≡ start = ea ∙ start_is in
      absurd (l (omega arith))
  by_left a b (d ∷ ds) q ea l eb = found_here d ds q a b ea eb

  -- what `next_field` answers
  pub found : (a b : ℕ) → a ≡ past white_space at (chars_from s at) → (a ≡ length s → ⊥) → b ≡ past non_space a (chars_from s a)
      → field_from a b ≡ field_at at (chars_from s at)
  found a b ea l eb = by_left a b (drop_while white_space cs) refl ea l eb

  -- the text goes on after the white space
  pub goes_on : (a : ℕ) → a ≡ past white_space at (chars_from s at) → chars_from s a ≡ some (drop_while white_space cs)
  goes_on a ea = rw (ea ∙ start_is) from_start

-- the characters of a text that has them
pub chars_of_lem : (o : Option (List ℕ)) → IsSome o → (cs : List ℕ) × (o ≡ some cs)
chars_of_lem none h = absurd h
chars_of_lem (some cs) h = (cs, refl)

pub is_some : (o : Option (List ℕ)) (cs : List ℕ) → o ≡ some cs → IsSome o
is_some o cs e = rw e tt
