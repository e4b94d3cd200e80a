-- 01, 'Steps': the context reader, which "given an address, hands back the saved context as a part of the caller's window, first
-- local to packed octabyte, after UNSAVE's own checks. It takes no state and changes nothing". 02, 'A second window': it "hands back a
-- part of whichever window held the context and says which; refusing, by 22 and 23 too, it hands back an empty part of A".
use Rattle.std.specs.Prelude.{ℕ, zero, suc, ◌+◌, ◌*◌, Bool, true, cond, not, ◌&&◌, List, take, drop, ◌==◌}
use Rattle.model.specs.Memory.{Window, Windows, Shapes, shapes_of, holder, offset, both}
use Rattle.model.specs.Plan.{Outcome, perform}
use Rattle.model.specs.Contexts.{context_at, octas_of}
use Rattle.model.specs.Step.{unruled_by, refusing}

-- a part of a window: which window, 0 for A and 1 for B; its first byte's index and its length
pub record Part : Type 0 where
  pub which : ℕ
  pub start : ℕ
  pub size : ℕ

abbrev pub empty_part : Part
empty_part = record { which = 0; start = 0; size = 0 }

abbrev pub window_of : Windows → ℕ → Window
window_of w k = cond (k == 1) w.b w.a

-- where a context lies: nowhere, or so many octabytes from the first local's address up
pub data Span : Type 0 where
  nowhere : Span
  octabytes : ℕ → ℕ → Span

-- the context of l locals and threshold g whose first local is at o
unfoldable pub span_of : ℕ → ℕ → ℕ → ℕ → List ℕ → Span
span_of o g a l vs = octabytes o (octas_of l g)

-- each octabyte of a run of n from a up is held by the window of number k
unfoldable pub held_by : Shapes → ℕ → ℕ → ℕ → Bool
held_by w k a zero = true
held_by w k a (suc n) = holder w a == k && held_by w k (a + 8) n

-- 23: "a context that lies across both": not each of its octabytes is held by the window that holds the first
unfoldable pub across : Shapes → ℕ → ℕ → Bool
across w a n = not (held_by w (holder w a) a n)

-- n octabytes from a up, of the window that holds the first
unfoldable pub part_at : Windows → ℕ → ℕ → Part
part_at w a n = record { which = holder (shapes_of w) a; start = offset (window_of w (holder (shapes_of w) a)).base a; size = 8 * n }

-- r is the reply of UNSAVE's own checks; 23 is "given only by the reader after UNSAVE's checks"
unfoldable pub handed : Windows → ℕ → Span → Outcome Part Windows
handed w r nowhere = record { reply = r; state = empty_part; memory = w }
handed w r (octabytes a n) =
    cond (across (shapes_of w) a n) (record { reply = 23; state = empty_part; memory = w }) (record { reply = r; state = part_at w a n; memory = w })

-- UNSAVE's own checks of the context whose packed octabyte is at p
abbrev pub checked : Windows → ℕ → Outcome Span Windows
checked w p = perform both (refusing (shapes_of w)) nowhere (context_at nowhere span_of p) w

-- THE reader: its reply and the part
unfoldable pub read_context : Windows → ℕ → Outcome Part Windows
read_context w p =
    cond (unruled_by (shapes_of w) == 0)
    (handed w (checked w p).reply (checked w p).state)
    (record { reply = unruled_by (shapes_of w); state = empty_part; memory = w })

-- the bytes of a part
abbrev pub part_bytes : Windows → Part → List ℕ
part_bytes w q = take q.size (drop q.start (window_of w q.which).bytes)
