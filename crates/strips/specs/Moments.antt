-- "Moments": a span's clear length and its static moment.
-- Assumes nothing.
use Rattle.std.specs.Prelude.{ℕ, ◌+◌, ◌-◌, ◌*◌, ◌/◌, max}
use Rattle.numbers.specs.Rounding.{up}

-- "Clear length is max(l1 − column, 0.65·l1)": whole mm, since spans are multiples of 20 (clear_exact)
unfoldable pub clear_length : ℕ → ℕ → ℕ
clear_length l1 column = max (l1 - column) (65 * l1 / 100)

-- "Static moment Mo, N·m, rounded up: (12D + 16L)·W·ln²/80000000000"
unfoldable pub static_moment : ℕ → ℕ → ℕ → ℕ → ℕ
static_moment D L W ln = up ((12 * D + 16 * L) * W * (ln * ln)) 80000000000
