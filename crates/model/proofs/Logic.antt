-- The names of the logic library that the proofs share, here and in the crates above.
pub use Prim.Native.Nat.{max, min, suc, zero, ℕ, ◌%◌, ◌*◌, ◌+◌, ◌-◌, ◌/◌, ◌<◌, ◌^◌, ◌≤◌}
pub use mathlib.Core.Bool.{Bool, beq as bool_beq, not-not as bool_not_not, cond, false, false≢true, not, true, true≢false, ◌&&◌, ◌||◌}
pub use mathlib.Core.List.{append_assoc, append-nil, head-eq_of_cons-eq, List, map, tail-eq_of_cons-eq, [], ◌++◌, ◌∷◌}
pub use mathlib.Core.Logic.{inl, inr, ◌≢◌, ◌⊎◌, ⊎_elim}
pub use mathlib.Core.Path.{ap, ap₂, refl, subst, sym, ◌∙◌, ◌≡◌}
pub use native.Mathlib.Decide.{dec_le, dec_lt, ℕ_discrete}
pub use native.Mathlib.Nat.{add-mul, add-mul-div_right, add-suc, add-zero, div-add-mod', div-div-eq-div-mul, div-eq_of_lt, div-eq_of_lt-le, div-le_of_le-mul}
pub use native.Mathlib.Nat.{div-le_self, div-lt_iff_lt-mul, div-one, eq-or-lt_of_le, eq-zero-or-pos, le-div_iff_mul-le, le_of_lt, le_of_suc-le-suc}
pub use native.Mathlib.Nat.{lt_of_lt_of_le, lt_of_mul-lt-mul_right, lt_of_not-le, min-eq_left, min-eq_right, mod-eq_of_lt, mod-lt, mul-add-mod_self_right}
pub use native.Mathlib.Nat.{mul_assoc, mul_comm, mul-div_cancel, mul-div-mul_right, mul-le-mul, mul-le-mul_left, mul-le-mul_right, mul-mod_left, mul-pos}
pub use native.Mathlib.Nat.{mul-zero, not-suc-le-zero, one-le-pow, one-mul, pow-le-pow_right, pow-suc, pow-succ', sub-zero, suc-add, zero-add, zero-div}
pub use native.Mathlib.Nat.{zero-mod, zero-mul}
pub use native.Mathlib.Numerals.{add-one, sub-one}
pub use native.Mathlib.Omega.{arith}
pub use lib.Arith.{digits_div, digits_lt, digits_mod}
pub use lib.Bits.{and_le_l, and_le_r, and_mask, and_shr, and_step, and_zero_l, bit_and, bit_or, or_lt}
pub use lib.Count.{leading_le, leading_length, leading_top, trailing_le, count_trailing_zeros}
unfoldable pub use lib.Count.{count_leading_zeros}
pub use lib.Dec.{eqb, leb, ltb}
pub use lib.IntN.{nat_abs, negsuc, neg_ℤ, neg_ℤ-neg_ℤ, pos, sub_ℕ, ℤ, +ℤ_comm, -ℤ-+ℤ_cancel, ◌*ℤ◌, ◌+ℤ◌, ◌-ℤ◌}
pub use lib.ListN.{drop, drop_of_length-le, get_or, get_or-replicate, length-append, length-drop, length-map, length-replicate, length-set, length-take}
pub use lib.ListN.{get_or-append as get_or_append, get_or-eq_default as get_or_eq_default, replicate, replicate-append-replicate, set, take, take-append-drop}
unfoldable pub use lib.ListN.{length}
pub use lib.Pow.{pow-add, pow_mono, pow_pos, shl_lt, shr-shr, split}
pub use lib.Seq.{append_snoc, drop-append-le, drop_at, drop-cons, drop-drop, ext_get_or, get_or-append-add, get_or-drop, get_or-set_other, get_or-set_same, get_or-take}
pub use lib.Seq.{length-sets, length-take-le, set-append_left, set-get_or, set_out, set-set, sets, sets-eq, split_at, take_all, take-append-le, take_at, take-suc}
pub use lib.Seq.{take-suc-set, take-take}
pub use lib.Signed.{lt_z, mag, non_neg}
pub use borrow.Author.Rules.{rules}
pub use borrow.Author.Tests.{eq-eqb, eqb-false, eqb-true, le-leb, le-ltb, leb-false, leb-true, lt-leb, lt-ltb, ltb-false, ltb-true, ne_eqb, not-false, not-true}
pub use denote.Enum.Declared.{tag_of}
pub use mir.Syntax.{w64}
pub use mir.Val.{has_key}
pub use borrow.Enum.Refused.{Among}
