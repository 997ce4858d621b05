-- Windows. Assumes nothing.
use Rattle.std.specs.Prelude.{ℕ, ◌+◌, Bool, cond, ◌&&◌, Some, None, Option, ◌==◌, nat_le, nat_lt}
use Rattle.sheet.specs.declared.windows.Window.{Window}
use Rattle.sheet.specs.declared.windows.Window.TheVariants.{Closed, Open}

abbrev pub is_closed : ℕ → ℕ → Bool
is_closed low high = nat_le 1 high && (nat_le high 4000 && nat_lt low high)

abbrev pub is_open : ℕ → ℕ → Bool
is_open low high = high == 65535 && nat_le low 4000

-- the window that low and high are, if they are one
abbrev pub window_of : ℕ → ℕ → Option Window
window_of low high = cond (is_closed low high) (Some (Closed low high)) (cond (is_open low high) (Some (Open low)) None)

-- a gap of so many seconds lies in the window
abbrev pub inside : Window → ℕ → Bool
inside (Closed low high) gap = nat_le low gap && nat_lt gap high
inside (Open low) gap = nat_le low gap

abbrev pub window_cells : Window → ℕ
window_cells (Closed low high) = high
window_cells (Open low) = low + 1

-- low and high as raw fields have them

abbrev pub raw_low : Window → ℕ
raw_low (Closed low high) = low
raw_low (Open low) = low

abbrev pub raw_high : Window → ℕ
raw_high (Closed low high) = high
raw_high (Open low) = 65535

-- the windows that raw fields can be
abbrev pub lawful_window : Window → Bool
lawful_window (Closed low high) = nat_lt low high && nat_le high 4000
lawful_window (Open low) = nat_le low 4000
