-- Theorem 1, of the reader: which replies it has, and that each refusal hands back an empty part of A.
use Rattle.model.proofs.Logic.{ℕ, ◌≤◌, Bool, false, true, true≢false, inl, inr, ◌≢◌, ◌⊎◌, ⊎_elim, ap, refl, sym, ◌≡◌, arith, eqb, eqb-false, eqb-true}
use Rattle.model.specs.Memory.{Windows, shapes_of}
use Rattle.model.specs.Contexts.{context_at}
use Rattle.model.specs.Step.{unruled_by}
use Rattle.model.specs.Reader.{Span, nowhere, octabytes, span_of, across, handed, checked, read_context}
use Rattle.model.specs.Leaves.{ReaderLeaves}
use Rattle.model.proofs.Bools.{on}
use Rattle.model.proofs.ItemInvariant.{Any}
use Rattle.model.proofs.ArmAnswers.{context_meets}
use Rattle.model.proofs.StepAnswers.{perform_meets}
use Rattle.model.proofs.Entry.{shared_only, unruled_is}

-- the numbers of UNSAVE's own checks, and the reader's
abbrev Checks : ℕ → Type 0
Checks r = (r ≡ 0) ⊎ ((r ≡ 6) ⊎ ((r ≡ 14) ⊎ ((r ≡ 15) ⊎ (r ≡ 16))))

one_of : (r : ℕ) → 14 ≤ r → r ≤ 16 → Checks r
one_of r l h = go (eqb r 14) (eqb r 15) refl refl
  where
    go : (p q : Bool) → eqb r 14 ≡ p → eqb r 15 ≡ q → Checks r
    go true q e f = inr (inr (inl (eqb-true _ _ e)))
    go false true e f = inr (inr (inr (inl (eqb-true _ _ f))))
    go false false e f =
        let n : r ≢ 14 = eqb-false _ _ e in
        let m : r ≢ 15 = eqb-false _ _ f in
        inr (inr (inr (inr (omega arith))))

abbrev Given : ℕ → Type 0
Given r = (r ≡ 0) ⊎ ((r ≡ 2) ⊎ ((r ≡ 6) ⊎ ((r ≡ 14) ⊎ ((r ≡ 15) ⊎ ((r ≡ 16) ⊎ ((r ≡ 22) ⊎ (r ≡ 23)))))))

given : (r : ℕ) → Checks r → Given r
given r (inl e) = inl e
given r (inr (inl e)) = inr (inr (inl e))
given r (inr (inr (inl e))) = inr (inr (inr (inl e)))
given r (inr (inr (inr (inl e)))) = inr (inr (inr (inr (inl e))))
given r (inr (inr (inr (inr e)))) = inr (inr (inr (inr (inr (inl e)))))

few : (r : ℕ) → Checks r → r ≤ 16
few r (inl e) = omega arith
few r (inr (inl e)) = omega arith
few r (inr (inr (inl e))) = omega arith
few r (inr (inr (inr (inl e)))) = omega arith
few r (inr (inr (inr (inr e)))) = omega arith

handed_leaves : (w : Windows) (r : ℕ) (c : Span) → Checks r → (r ≢ 0 → c ≡ nowhere) → ReaderLeaves w (handed w r c)
unfolding handed
handed_leaves w r nowhere h z = record { among = given r h; shared = λ p. absurd (omega (arith, few r h)); refused = λ n. refl; unchanged = refl }
handed_leaves w r (octabytes a n) h z =
    on (ReaderLeaves w) (across (shapes_of w) a n)
    (λ f. record { among = inr (inr (inr (inr (inr (inr (inr refl)))))); shared = λ p. absurd (omega arith); refused = λ m. refl; unchanged = refl })
    (λ f. record { among = given r h; shared = λ p. absurd (omega (arith, few r h)); refused = λ m. absurd (placed (z m)); unchanged = refl })
  where
    is_nowhere : Span → Bool
    is_nowhere nowhere = true
    is_nowhere (octabytes a n) = false

    placed : octabytes a n ≡ nowhere → ⊥
    placed e = true≢false (sym (ap is_nowhere e))

pub reader_leaves : (w : Windows) (p : ℕ) → ReaderLeaves w (read_context w p)
unfolding read_context
reader_leaves w p =
    on (ReaderLeaves w) (eqb (unruled_by (shapes_of w)) 0)
    (λ e. handed_leaves w (checked w p).reply (checked w p).state checks.0 checks.1)
    (λ e. record {
      among = ⊎_elim (λ z. inl z) (⊎_elim (λ t. inr (inl t)) (λ t. inr (inr (inr (inr (inr (inr (inl t)))))))) (unruled_is (shapes_of w));
      shared = shared_only (shapes_of w);
      refused = λ n. refl;
      unchanged = refl;
    })
  where
    checks : Checks (checked w p).reply × ((checked w p).reply ≢ 0 → (checked w p).state ≡ nowhere)
    checks = perform_meets w nowhere Any (λ r t vs. Checks r × (r ≢ 0 → t ≡ nowhere)) (λ o. Checks o.reply × (o.reply ≢ 0 → o.state ≡ nowhere))
        (inr (inl refl), λ n. refl) (λ r t a vs h. h) (λ a n. tt) (context_at nowhere span_of p)
        (context_meets nowhere span_of p Any (λ r t vs. Checks r × (r ≢ 0 → t ≡ nowhere)) (λ n a b. (one_of n a b, λ m. refl))
        (λ o g a l vs b c d e f i. (inl refl, λ m. absurd (m refl))))
