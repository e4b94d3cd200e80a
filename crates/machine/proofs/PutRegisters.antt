-- What PUT answers, as code has it: done, or a refusal by its number.
use Rattle.model.proofs.Prelude.{ℕ, cond, ap, refl, sym, ◌∙◌, ◌≡◌, arith, eqb}
use Rattle.model.proofs.Prelude.{ne_eqb, reply_of}
use Rattle.model.proofs.Prelude.{put_refusal, put_state, put_most}
use Rattle.model.proofs.Prelude.{number_zero, refused_not_zero, tag_is, tag_of}
use Rattle.model.specs.declared.State.{State}
use Rattle.model.specs.declared.Reply.{Reply}
use Rattle.model.specs.declared.Reply.TheVariants.{Done}
use Rattle.model.specs.contracts.Reply.{the_type}
use Rattle.machine.specs.Put.{PutGives}

module _ (s : State) (x v : ℕ) where
  pub put_tag : (r : Reply) → r ≡ reply_of (put_refusal s x v) → tag_of the_type r ≡ put_refusal s x v
  put_tag r e = tag_is (put_refusal s x v) r (let h = put_most s x v in omega arith) e

  module _ (r : Reply) (e : r ≡ reply_of (put_refusal s x v)) where
    pub put_done_law : (t : State) → r ≡ Done → t ≡ put_state s x v → PutGives s x v r t
    put_done_law t z q = record { reply_is = e; state_is = q ∙ sym (ap (λ (k : ℕ). cond (eqb k 0) (put_state s x v) s) (number_zero (put_refusal s x v) r (let h = put_most s x v in omega arith) e z)) }

    pub put_refused : (r ≡ Done → ⊥) → PutGives s x v r s
    put_refused z = record { reply_is = e; state_is = rw (ne_eqb (put_refusal s x v) 0 (refused_not_zero (put_refusal s x v) r e z)) refl }
