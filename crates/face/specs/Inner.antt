-- Inner: no promise of the house rests on what stands here; inner contracts and proofs speak by it.
-- What is known of a place that a call has shown.
use Rattle.std.specs.Prelude.{◌≡◌, false, ℕ, ◌<◌}
use Rattle.ground.specs.Calls.{Reply, is_refused}

-- a call that shows the number at a place, and is done, has found the place
abbrev pub PlaceShown : Reply → ℕ → Type 0
PlaceShown r p = is_refused r ≡ false → 0 < p
