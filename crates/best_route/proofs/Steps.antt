-- The best step from a position, over scores: its score is at least that of every step there, of those with its score none ends later, and it is one
-- of them.
-- Of two steps `better` takes one that is no worse than the other, and so `best_of` does of all.
-- Assumes nothing.
use Prim.Native.Nat.{ℕ, ◌≤◌}
use mathlib.Core.Bool.{Bool, true, false, cond, ◌&&◌, ◌||◌, true≢false}
use mathlib.Core.List.Memᴰ
use mathlib.Core.List.{List, [], ◌∷◌, Memᴰ}
use mathlib.Core.Logic.{◌⊎◌, inl, inr, ⊎_elim}
use mathlib.Core.Path.{◌≡◌, refl, sym, ◌∙◌, subst}
use native.Mathlib.Omega.{arith}
use borrow.Author.Tests.{ltb-true, ltb-false}
use lib.Dec.{ltb}
use Rattle.score.specs.Scores.{Score, less_than, equals}
use Rattle.best_route.specs.Paths.{Word, Scored, scored, wins, better, best_of, lone, best_step, steps_at}
use Rattle.best_route.proofs.Order.{AtLeast, at_least_self, at_least_trans, less_at_least, at_least_both, equal_scores, equal_itself}

-- ---- two steps

-- a step is no worse than another: "Greater score wins, then larger end"
pub record NoWorse (s t : Scored) : Type 0 where
  pub score : AtLeast s.score t.score
  pub end : t.score ≡ s.score → t.end ≤ s.end

no_worse_self : (s : Scored) → NoWorse s s
no_worse_self s = record { score = at_least_self s.score; end = λ same. omega arith }

no_worse_trans : (r s t : Scored) → NoWorse r s → NoWorse s t → NoWorse r t
no_worse_trans r s t rs st = record {
  score = at_least_trans r.score s.score t.score rs.score st.score;
  end = λ same.
      let middle : s.score ≡ r.score = at_least_both s.score r.score (subst (AtLeast s.score) same st.score) rs.score in
      omega (arith, rs.end middle, st.end (same ∙ sym middle));
}

better_no_worse : (new old : Scored) → NoWorse (better new old) new × NoWorse (better new old) old
better_no_worse new old = go (less_than old.score new.score) (equals new.score old.score) (ltb old.end new.end) refl refl refl
  where
    go : (less same further : Bool)
        → less_than old.score new.score ≡ less
        → equals new.score old.score ≡ same
        → ltb old.end new.end ≡ further
        → NoWorse (cond (less || same && further) new old) new × NoWorse (cond (less || same && further) new old) old
    go true same further e f g = (
      no_worse_self new,
      record {
        score = less_at_least old.score new.score e;
        end = λ equal. absurd (true≢false (sym e ∙ subst (AtLeast old.score) equal (at_least_self old.score)));
      },
    )
    go false true true e f g = (
      no_worse_self new,
      record {
        score = subst (AtLeast new.score) (equal_scores new.score old.score f) (at_least_self new.score);
        end = λ equal. omega (arith, ltb-true old.end new.end g);
      },
    )
    go false true false e f g = (record { score = e; end = λ equal. ltb-false old.end new.end g }, no_worse_self old)
    go false false further e f g =
        (record { score = e; end = λ equal. absurd (equal_itself old.score (subst (λ (s : Score). equals s old.score ≡ false) equal f)) }, no_worse_self old)

pub better_one : (new old : Scored) → (better new old ≡ new) ⊎ (better new old ≡ old)
better_one new old = go (wins new old)
  where
    go : (t : Bool) → (cond t new old ≡ new) ⊎ (cond t new old ≡ old)
    go true = inl refl
    go false = inr refl

-- ---- all steps

module _ (total : ℕ) (later : ℕ → Score) where
  best_no_worse : (best : Scored) (ws : List Word) → NoWorse (best_of total later best ws) best
  unfolding best_of
  best_no_worse best [] = no_worse_self best
  best_no_worse best (w ∷ ws) =
      no_worse_trans _ _ _ (best_no_worse (better (scored total later w) best) ws) (better_no_worse (scored total later w) best).1

  best_no_worse_each : (best : Scored) (ws : List Word) (w : Word) → Memᴰ w ws → NoWorse (best_of total later best ws) (scored total later w)
  unfolding best_of
  best_no_worse_each best [] w x' = elim x' [ ]
  best_no_worse_each best (v ∷ ws) w (Memᴰ.head e) =
      rw e (no_worse_trans _ _ _ (best_no_worse (better (scored total later v) best) ws) (better_no_worse (scored total later v) best).0)
  best_no_worse_each best (v ∷ ws) w (Memᴰ.tail m) = best_no_worse_each (better (scored total later v) best) ws w m

  -- one of the words is this step
  abbrev OneIs : List Word → Scored → Type 0
  OneIs ws s = (w : Word) × Memᴰ w ws × (s ≡ scored total later w)

  best_one : (best : Scored) (ws : List Word) → (best_of total later best ws ≡ best) ⊎ OneIs ws (best_of total later best ws)
  unfolding best_of
  best_one best [] = inl refl
  best_one best (w ∷ ws) = join (better (scored total later w) best) (better_one (scored total later w) best) (best_one (better (scored total later w) best) ws)
    where
      join : (next : Scored)
          → (next ≡ scored total later w) ⊎ (next ≡ best)
          → (best_of total later next ws ≡ next) ⊎ OneIs ws (best_of total later next ws)
          → (best_of total later next ws ≡ best) ⊎ OneIs (w ∷ ws) (best_of total later next ws)
      join next (inl new) (inl stays) = inr (w, Memᴰ.head refl, stays ∙ new)
      join next (inr old) (inl stays) = inl (stays ∙ old)
      join next one (inr (v, m, e)) = inr (v, Memᴰ.tail m, e)

  -- ---- the steps of a position

  pub step_no_worse : (next : ℕ) (row : List Word) (w : Word)
      → Memᴰ w (steps_at next row)
      → NoWorse (best_step total later next row) (scored total later w)
  step_no_worse next [] w m = rw (Memᴰ.eq_of_singleton m) (no_worse_self (scored total later (lone next)))
  step_no_worse next (v ∷ ws) w m =
      ⊎_elim (λ e. rw e (best_no_worse (scored total later v) ws)) (λ n. best_no_worse_each (scored total later v) ws w n) (Memᴰ.cases_cons m)

  pub step_one : (next : ℕ) (row : List Word) → OneIs (steps_at next row) (best_step total later next row)
  step_one next [] = (lone next, Memᴰ.head refl, refl)
  step_one next (v ∷ ws) =
      ⊎_elim (λ e. (v, Memᴰ.head refl, e)) (λ one. (one.0, Memᴰ.tail one.1, one.2)) (best_one (scored total later v) ws)
