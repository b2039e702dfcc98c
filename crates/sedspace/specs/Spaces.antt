-- What contracts see of a space and of a queue.
use Rattle.std.specs.Prelude.{ℕ, List}

-- a space, as the pattern space and the hold space of XCU sed: its bytes, and the most it may hold
pub record SpaceView : Type 0 where
  pub bytes : List ℕ
  pub limit : ℕ

-- a queue (this project's own: the outputs that wait for the end of a cycle): its entries, and the most it may hold
pub record QueueView : Type 0 where
  pub items : List ℕ
  pub limit : ℕ
