-- How the code goes about a set, and why that is the set: it is judged first, by rL alone, which earlier pairs may have lowered; then all pairs are put, in place.
use Rattle.std.specs.Prelude.{ℕ, suc, min, ◌≡◌, cond, List, [], ◌∷◌, eqb}
use Rattle.model.specs.Registers.{r_l, sp, Sized, fresh, halted, with_special}
use Rattle.model.specs.System.{put_refusal, put_state}
use Rattle.model.specs.declared.State.{State}
use Rattle.sets.specs.Sets.{Pair, SetOutcome, set_says, put_pairs, all_or_none}

-- PUT's number where rL is l, whatever else the state is
unfoldable pub refusal_at : ℕ → Pair → ℕ
refusal_at l p = put_refusal (with_special fresh r_l l) p.register p.value

-- rL after it
unfoldable pub locals_after : ℕ → Pair → ℕ
locals_after l p = cond (eqb p.register r_l) (min p.value l) l

pub record Judgement : Type 0 where
  pub reply : ℕ
  pub place : ℕ

abbrev pub judges : ℕ → ℕ → Judgement
judges r i = record { reply = r; place = i }

unfoldable pub judge_pairs : ℕ → ℕ → List Pair → Judgement
judge_pairs l i [] = judges 0 0
judge_pairs l i (p ∷ ps) = cond (eqb (refusal_at l p) 0) (judge_pairs (locals_after l p) (suc i) ps) (judges (refusal_at l p) i)

unfoldable pub put_all : State → List Pair → State
put_all s [] = s
put_all s (p ∷ ps) = put_all (put_state s p.register p.value) ps

unfoldable pub judged_then_put : State → List Pair → Judgement → SetOutcome
judged_then_put s ps j = cond (eqb j.reply 0) (set_says 0 0 (put_all s ps)) (set_says j.reply j.place (halted s))

abbrev pub JudgedFirst : Type 0
JudgedFirst = (s : State) (ps : List Pair) → Sized s → all_or_none s (put_pairs s 0 ps) ≡ judged_then_put s ps (judge_pairs (sp s r_l) 0 ps)
