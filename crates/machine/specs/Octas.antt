-- Reading and writing octabytes of any memory, one or a run: outside it a read gives 0 and a write does nothing. The names without 'By' are of
-- the two lent windows.
use Rattle.std.specs.Prelude.{ℕ, zero, suc, ◌+◌, ◌-◌, ◌*◌, ◌/◌, min, Bool, cond, ◌&&◌, List, leb, ltb, get_or}
use Rattle.model.specs.Memory.{Window, Shape, offset, Store, Windows, both}
use Rattle.model.specs.Plan.{look}

module _ {M Sh : Type 0} (st : Store M Sh) where
  unfoldable pub read_by : M → ℕ → ℕ
  read_by m a = cond (st.inside (st.shape m) a) (look st m a) 0

  unfoldable pub written_by : M → ℕ → ℕ → M
  written_by m a v = cond (st.inside (st.shape m) a) (st.put m a v) m

  -- the n octabytes from a up become f 0 to f (n − 1)
  unfoldable pub written_run_by : M → ℕ → ℕ → (ℕ → ℕ) → M
  written_run_by m a zero f = m
  written_run_by m a (suc n) f = written_by (written_run_by m a n f) (a + 8 * n) (f n)

  -- the octabytes from a up become the general registers from `from` up to, not including, `to`, of which there are 256
  unfoldable pub written_range_by : M → ℕ → ℕ → ℕ → List ℕ → M
  written_range_by m a from to general = written_run_by m a (min to 256 - from) (λ i. get_or general (from + i) 0)

-- ---- of the two lent windows

abbrev pub read_octa : Windows → ℕ → ℕ
read_octa = read_by both

abbrev pub written_octa : Windows → ℕ → ℕ → Windows
written_octa = written_by both

abbrev pub written_run : Windows → ℕ → ℕ → (ℕ → ℕ) → Windows
written_run = written_run_by both

abbrev pub written_range : Windows → ℕ → ℕ → ℕ → List ℕ → Windows
written_range = written_range_by both

-- ---- of one

-- a window as code lends it
abbrev pub lent_one : ℕ → List ℕ → Window
lent_one base bytes = record { base = base; bytes = bytes }

-- how many octabytes from a up lie in a window
unfoldable pub room_in : Shape → ℕ → ℕ
room_in w a = (w.size - offset w.from a) / 8

-- registers from `from` up to, not including, `to` are some, of the 256, and the window has room for them from a up
unfoldable pub held_range : Shape → ℕ → ℕ → ℕ → Bool
held_range w a from to = ltb from to && (leb to 256 && leb (to - from) (room_in w a))
