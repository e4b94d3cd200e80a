-- What a point keeps, at its limits.
use Rattle.model.proofs.Logic.{ℕ, ◌%◌, ◌*◌, ◌/◌, true, refl, ◌≡◌, arith, length}
use Rattle.model.specs.examples.KeptExamples.{widest, KeptMeant}
use Rattle.model.proofs.Computed.{below, below_at}

computed : (below 256 widest.image ≡ true) × (below 256 widest.a ≡ true) × (below 256 widest.b ≡ true)
unfolding below
computed = (refl, refl, refl)

-- as many octabytes as whole ones
whole : (n : ℕ) → 8 * (n / 8) ≡ n → n % 8 ≡ 0
whole n e = omega (arith, e)

pub kept_meant : KeptMeant
kept_meant = record {
  lengths = (refl, refl, refl);
  octabytes = (refl, refl);
  widest_fits = record {
    image_long = refl;
    base_a' = omega arith;
    base_b' = omega arith;
    long_a = omega arith;
    long_b = omega arith;
    whole_a = refl;
    whole_b = refl;
  };
  widest_bytes = record {
    image_bytes = λ i. below_at 256 widest.image i (omega arith) computed.0;
    a_bytes = λ i. below_at 256 widest.a i (omega arith) computed.1;
    b_bytes = λ i. below_at 256 widest.b i (omega arith) computed.2;
  };
  fits_only = λ p f. (f.image_long, f.base_a', f.base_b', f.long_a, f.long_b, whole (length p.a) f.whole_a, whole (length p.b) f.whole_b);
  bytes_only = λ p h i. (h.image_bytes i, h.a_bytes i, h.b_bytes i);
}
