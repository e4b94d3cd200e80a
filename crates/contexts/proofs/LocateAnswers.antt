-- One context plan for two kinds of state: what `locate` answered of it is what UNSAVE or the reader makes of it. First the two plans side
-- by side, then what comes of each answer.
use Rattle.model.proofs.Prelude.{ℕ, ◌%◌, ◌+◌, ◌-◌, ◌/◌, ◌^◌, ◌≤◌, ◌&&◌, List, [], ap, refl, ◌∙◌, ◌≡◌, arith, leb, get_or, eqb-true, leb-true, ne_eqb, context_at}
use Rattle.model.proofs.Prelude.{context_count, context_rest, both, shapes_of, Windows, number_of, reply_of, answer, clear, looks, named, Outcome, perform, Plan}
use Rattle.model.proofs.Prelude.{puts, read, worst, refusing, and_right, on_both, Inside, perform_on, numbered, octas_of, worst_six}
use Rattle.contexts.proofs.Prelude.{below, Reply, Missing}
use Rattle.contexts.specs.SaveUnsave.{spot, located_of, located_answer, LocatedIs}
use Rattle.contexts.specs.ContextWork.{octas_from}
use Rattle.contexts.specs.declared.layout.SavedContext.{SavedContext}
use Rattle.contexts.specs.SaveUnsave.{Located}
use Rattle.contexts.specs.declared.layout.ContextError.{ContextError}
use Rattle.contexts.specs.declared.layout.ContextError.TheVariants.{Bad, Lost}
use Rattle.std.specs.Prelude.{Ok, Err}
use Rattle.contexts.proofs.UnsaveLoads.{octas_are}
use Rattle.contexts.proofs.ContextPlaces.{run_back}

-- the outcome o of a plan and the outcome of the same plan that only locates
pub data Turns {S : Type 0} (w : Windows) (p : ℕ) (s bad : S) (found : ℕ → ℕ → ℕ → ℕ → List ℕ → S) : Outcome S Windows → Outcome SavedContext Windows → Type 0 where
  stands : (g a l : ℕ) → g ≤ 255 → l ≤ g → Inside w (below p (l + 269 - g)) (l + 270 - g)
      → Turns w p s bad found (record { reply = 0; state = found (below p (l + 269 - g) % 2 ^ 64) g a l (octas_of w p g l); memory = w })
      (record { reply = 0; state = spot (below p (l + 269 - g) % 2 ^ 64) g a l; memory = w })
  lacks : (n : ℕ) → n ≡ 6 → Turns w p s bad found (record { reply = n; state = s; memory = w }) (record { reply = n; state = spot 0 0 0 0; memory = w })
  refuses : (n : ℕ) → 14 ≤ n → n ≤ 16 → Turns w p s bad found (record { reply = n; state = bad; memory = w }) (record { reply = n; state = spot 0 0 0 0; memory = w })

named_six : (r : ℕ) → r ≡ 6 → named 6 r ≡ 6
unfolding named
named_six r e = rw e

module _ {S : Type 0} (w : Windows) (p : ℕ) (s bad : S) (found : ℕ → ℕ → ℕ → ℕ → List ℕ → S) where
  abbrev Alike : Plan S → Plan SavedContext → Type 0
  Alike q r = Turns w p s bad found (perform_on w s q) (perform_on w (spot 0 0 0 0) r)

  abbrev here : ℕ → ℕ → ℕ → ℕ → List ℕ → SavedContext
  here o g a l vs = spot o g a l

  read_alike : (a n : ℕ) (f : List ℕ → Plan S) (g : List ℕ → Plan SavedContext) → (Inside w a n → Alike (f (looks both w a n)) (g (looks both w a n))) → Alike (read 6 a n f) (read 6 a n g)
  unfolding perform
  read_alike a n f g h =
      on_both {A = Outcome S Windows} {B = Outcome SavedContext Windows} (Turns w p s bad found) (clear (refusing (shapes_of w)) a n) (λ e. h (eqb-true _ _ e))
      (λ e. lacks (named 6 (worst (refusing (shapes_of w)) a n)) (named_six _ (worst_six (shapes_of w) n a e)))

  said_alike : (n : ℕ) → 14 ≤ n → n ≤ 16 → Alike (answer n bad 0 []) (answer n (spot 0 0 0 0) 0 [])
  unfolding perform worst puts
  said_alike n l h = refuses n l h

  found_alike : (g a l : ℕ) → g ≤ 255 → l ≤ g → Inside w (below p (l + 269 - g)) (l + 270 - g)
      → Alike (answer 0 (found (below p (l + 269 - g) % 2 ^ 64) g a l (octas_of w p g l)) 0 []) (answer 0 (spot (below p (l + 269 - g) % 2 ^ 64) g a l) 0 [])
  unfolding perform worst puts
  found_alike g a l h k i = stands g a l h k i

  rest_alike : (g a l : ℕ) → g ≤ 255 → Alike (context_rest bad found p g a l) (context_rest (spot 0 0 0 0) here p g a l)
  unfolding context_rest
  rest_alike g a l h =
      on_both Alike (leb l g)
      (λ e. read_alike (below p (l + 269 - g)) (l + 270 - g) (λ vs. answer 0 (found (below p (l + 269 - g) % 2 ^ 64) g a l vs) 0 [])
      (λ vs. answer 0 (spot (below p (l + 269 - g) % 2 ^ 64) g a l) 0 []) (found_alike g a l h (leb-true l g e)))
      (λ e. said_alike 16 (omega arith) (omega arith))

  count_alike : (g a : ℕ) → Alike (context_count bad found p g a) (context_count (spot 0 0 0 0) here p g a)
  unfolding context_count
  count_alike g a =
      on_both Alike (leb 32 g && leb g 255)
      (λ e. on_both Alike (leb a 0x3FFFF)
      (λ f. read_alike (below p (269 - g)) 1 (λ v. context_rest bad found p g a (get_or v 0 0)) (λ v. context_rest (spot 0 0 0 0) here p g a (get_or v 0 0))
      (λ i. rest_alike g a _ (leb-true g 255 (and_right (leb 32 g) _ e))))
      (λ f. said_alike 15 (omega arith) (omega arith)))
      (λ e. said_alike 14 (omega arith) (omega arith))

  turns : Turns w p s bad found (perform_on w s (context_at bad found p)) (located_of w p)
  unfolding context_at located_of
  turns =
      read_alike p 1 (λ v. context_count bad found p (get_or v 0 0 / 2 ^ 56) (get_or v 0 0 % 2 ^ 56)) (λ v. context_count (spot 0 0 0 0) here p (get_or v 0 0 / 2 ^ 56) (get_or v 0 0 % 2 ^ 56))
      (λ i. count_alike _ _)

-- a context that was found: its bounds, and that all of it is lent
pub record Standing (w : Windows) (c : SavedContext) : Type 0 where
  pub g_high : c.rg ≤ 255
  pub l_g : c.count ≤ c.rg
  pub inside : Inside w c.first (c.count + 270 - c.rg)

-- what comes of a plan by what `locate` answered
pub record Comes {S : Type 0} (w : Windows) (s bad : S) (found : ℕ → ℕ → ℕ → ℕ → List ℕ → S) (r : Located) (o : Outcome S Windows) : Type 0 where
  pub standing : (c : SavedContext) → r ≡ Ok c → Standing w c
  pub done : (c : SavedContext) → r ≡ Ok c
      → o ≡ record { reply = 0; state = found c.first c.rg c.ra c.count (octas_from w c.first (c.count + 270 - c.rg)); memory = w }
  pub lost : (q : Reply) → r ≡ Err (Lost q) → o ≡ record { reply = number_of q; state = s; memory = w }
  pub other : (q : Reply) → r ≡ Err (Bad q) → o ≡ record { reply = number_of q; state = bad; memory = w }

module _ {S : Type 0} (w : Windows) (p : ℕ) (s bad : S) (found : ℕ → ℕ → ℕ → ℕ → List ℕ → S) (r : Located) where
  stood : (g a l : ℕ) → g ≤ 255 → l ≤ g → Inside w (below p (l + 269 - g)) (l + 270 - g) → (c : SavedContext) → c ≡ spot (below p (l + 269 - g) % 2 ^ 64) g a l
      → Standing w c × (octas_from w c.first (c.count + 270 - c.rg) ≡ octas_of w p g l)
  unfolding spot
  stood g a l gh lg h c e =
      let e2 : c.first ≡ below p (l + 269 - g) % 2 ^ 64 = ap (λ (k : SavedContext). k.first) e in
      let e3 : c.rg ≡ g = ap (λ (k : SavedContext). k.rg) e in
      let e5 : c.count ≡ l = ap (λ (k : SavedContext). k.count) e in
      let i : Inside w c.first (c.count + 270 - c.rg) = rw (e3, e5) (run_back w (below p (l + 269 - g)) c.first e2 (l + 270 - g) h) in
      (record { g_high = omega arith; l_g = omega arith; inside = i }, rw (e3, e5) (octas_are w (below p (l + 269 - g)) c.first (l + 270 - g) h e2))

  go : {o : Outcome S Windows} {q : Outcome SavedContext Windows} → Turns w p s bad found o q → r ≡ located_answer q.reply q.state → Comes w s bad found r o
  unfolding located_answer
  go (stands g a l gh lg h) e = record {
    standing = λ c d. let same : c ≡ spot (below p (l + 269 - g) % 2 ^ 64) g a l = cc in (stood g a l gh lg h c same).0;
    done = λ c d.
        let same : c ≡ spot (below p (l + 269 - g) % 2 ^ 64) g a l = cc in
        rw ((stood g a l gh lg h c same).1, same) (unfold spot in refl);
    lost = λ q d. let z : ◌≡◌ {A = ℕ} 0 1 = cc in absurd (omega arith);
    other = λ q d. let z : ◌≡◌ {A = ℕ} 0 1 = cc in absurd (omega arith);
  }
  go (lacks n six) e =
      let k : r ≡ Err (Lost Missing) = e ∙ (unfold reply_of in rw six refl) in
      record {
        standing = λ c d. let z : ◌≡◌ {A = ℕ} 0 1 = cc in absurd (omega arith);
        done = λ c d. let z : ◌≡◌ {A = ℕ} 0 1 = cc in absurd (omega arith);
        lost = λ q d. let same : q ≡ Missing = cc in rw (same, six) (unfold number_of in refl);
        other = λ q d. let z : ◌≡◌ {A = ℕ} 0 1 = cc in absurd (omega arith);
      }
  go (refuses n lo hi) e =
      let k : r ≡ Err (Bad (reply_of n)) = e ∙ rw (ne_eqb n 0 (λ z. omega arith), ne_eqb n 6 (λ z. omega arith)) refl in
      record {
        standing = λ c d. let z : ◌≡◌ {A = ℕ} 0 1 = cc in absurd (omega arith);
        done = λ c d. let z : ◌≡◌ {A = ℕ} 0 1 = cc in absurd (omega arith);
        lost = λ q d. let z : ◌≡◌ {A = ℕ} 0 1 = cc in absurd (omega arith);
        other = λ q d. let same : q ≡ reply_of n = cc in rw (same, numbered.number_reply n (omega arith));
      }

  pub comes : LocatedIs w p r → Comes w s bad found r (perform_on w s (context_at bad found p))
  comes h = go (turns w p s bad found) h.answer_is

-- of the place alone
pub stands_at : (w : Windows) (p : ℕ) (r : Located) → LocatedIs w p r → (c : SavedContext) → r ≡ Ok c → Standing w c
stands_at w p r h = (comes {S = ℕ} w p 0 0 (λ o g a l vs. 0) r h).standing

-- an error as code tells it
pub at_err : (r : Located) (d e : ContextError) → r ≡ Err d → d ≡ e → r ≡ Err e
at_err r d e p q = rw q at p
