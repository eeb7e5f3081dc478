-- A span on the high side of an outer line, and none on its low side.
-- Assumes nothing.
use Prim.Native.Nat.{ℕ}
use native.Mathlib.Omega.{arith}
use mathlib.Core.Bool.{true}
use mathlib.Core.Logic.{inl}
use mathlib.Core.Path.{refl}
use Rattle.stiffness.specs.Asked.{Span, Column, Line}

pub edge : {span column : ℕ} → Span span → Column column → Line true 0 span column
edge s c =
    record {
      spans =
          record {
            below_most = omega arith;
            below_twenties = refl;
            above_most = s.most;
            above_twenties = s.twenties;
            there = inl (refl, s.least);
          };
      across = c;
    }
