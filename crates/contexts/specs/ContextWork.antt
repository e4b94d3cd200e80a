-- What the contracts of the private functions of SAVE and UNSAVE cite: bounds, the context stored, the registers left, octabytes as code
-- reads them, and the twelve special registers loaded one after another.
use Rattle.std.specs.Prelude.{ℕ, zero, suc, ◌+◌, ◌*◌, ◌%◌, ◌^◌, ◌≤◌, ◌≡◌, List, get_or, set}
use Rattle.model.specs.Fill.{over, tab}
use Rattle.model.specs.Memory.{Windows, shapes_of, both}
use Rattle.model.specs.Plan.{worst, puts}
use Rattle.model.specs.Registers.{r_o, r_s, r_g, r_l, r_a}
use Rattle.model.specs.Contexts.{extent, saved_special, saved, unsaved, octas_of, packed_at}
use Rattle.model.specs.Step.{refusing}
use Rattle.model.specs.Parts.{made}
use Rattle.machine.specs.Octas.{read_octa}
use Rattle.model.specs.declared.State.{State}
use Rattle.contexts.specs.declared.layout.SavedContext.{SavedContext}

-- what a context's size and packed octabyte rest on
pub record Ranged (special : List ℕ) : Type 0 where
  pub g_low : 32 ≤ get_or special r_g 0
  pub g_high : get_or special r_g 0 ≤ 255
  pub l_g : get_or special r_l 0 ≤ get_or special r_g 0
  pub a_high : get_or special r_a 0 ≤ 0x3FFFF

-- v is w with the context of these registers stored from rO up, where it lies inside
pub record StoresContext (general special : List ℕ) (w v : Windows) : Type 0 where
  pub stores : (pc halt marks mask : ℕ) → worst (refusing (shapes_of w)) (get_or special r_o 0) (extent (made general special pc halt marks mask)) ≡ 0
      → v ≡ puts both w (get_or special r_o 0) (tab 0 (extent (made general special pc halt marks mask)) (saved (made general special pc halt marks mask)))

-- the registers that SAVE $x leaves
unfoldable pub left_general : List ℕ → List ℕ → ℕ → List ℕ
left_general general special x =
    set (over (λ k. 0) 0 (get_or special r_g 0) general) x ((get_or special r_o 0 + 8 * packed_at (get_or special r_l 0) (get_or special r_g 0)) % 2 ^ 64)

unfoldable pub left_special : List ℕ → List ℕ
left_special special =
    set (set (set special r_l 0) r_o ((get_or special r_o 0 + 8 * octas_of (get_or special r_l 0) (get_or special r_g 0)) % 2 ^ 64)) r_s
    ((get_or special r_o 0 + 8 * octas_of (get_or special r_l 0) (get_or special r_g 0)) % 2 ^ 64)

-- the n octabytes from address a up, as code reads them
unfoldable pub octas_from : Windows → ℕ → ℕ → List ℕ
octas_from w a n = tab 0 n (λ i. read_octa w ((a + 8 * i) % 2 ^ 64))

-- the state that UNSAVE makes of s by a context that was found
abbrev pub unsaved_as : Windows → State → SavedContext → State
unsaved_as w s c = unsaved s c.first c.rg c.ra c.count (octas_from w c.first (octas_of c.count c.rg))

-- l with f k at the place of the special that is number k of the twelve, for each k below n
unfoldable pub loaded : (ℕ → ℕ) → ℕ → List ℕ → List ℕ
loaded f zero l = l
loaded f (suc n) l = set (loaded f n l) (saved_special n) (f n)
