-- The two tables that are lent to a call: the register's bytes and the words of the nodes.
use Rattle.std.specs.Prelude.{List, ℕ}

-- [1.2] "Register calls are lent only the register; all others both tables"
pub record Tables : Type 0 where
  pub register : List ℕ
  pub nodes : List ℕ

abbrev pub tables : List ℕ → List ℕ → Tables
tables R N = record { register = R; nodes = N }
