-- Which numbers are limits, and what may be held by them.
use Rattle.std.proofs.Common.{◌≡◌, arith, refl}
use Rattle.sedengine.specs.LimitRanges.{AreLimits, limits_of}
use Rattle.sedengine.specs.Held.{bound_of, total_of}

-- the program's own: bytes of a space, entries of the queue, bytes read ahead, turns, nodes of an expression
program_limits : AreLimits (limits_of 1048576 4096 65536 18446744073709551615 16384)
program_limits = record {
  some_space = omega arith;
  most_space = omega arith;
  most_queue = omega arith;
  some_look = omega arith;
  most_look = omega arith;
  some_nodes = omega arith;
  most_nodes = omega arith;
}

least_limits : AreLimits (limits_of 1 0 1 0 1)
least_limits = record {
  some_space = omega arith;
  most_space = omega arith;
  most_queue = omega arith;
  some_look = omega arith;
  most_look = omega arith;
  some_nodes = omega arith;
  most_nodes = omega arith;
}

greatest_limits : AreLimits (limits_of 1073741824 16777216 1073741824 18446744073709551615 65536)
greatest_limits = record {
  some_space = omega arith;
  most_space = omega arith;
  most_queue = omega arith;
  some_look = omega arith;
  most_look = omega arith;
  some_nodes = omega arith;
  most_nodes = omega arith;
}

no_space : AreLimits (limits_of 0 0 1 0 1) → ⊥
no_space l = let some = l.some_space in absurd (omega (arith, some))

space_too_large : AreLimits (limits_of 1073741825 0 1 0 1) → ⊥
space_too_large l = let most = l.most_space in absurd (omega (arith, most))

queue_too_large : AreLimits (limits_of 1 16777217 1 0 1) → ⊥
queue_too_large l = let most = l.most_queue in absurd (omega (arith, most))

no_look : AreLimits (limits_of 1 0 0 0 1) → ⊥
no_look l = let some = l.some_look in absurd (omega (arith, some))

look_too_large : AreLimits (limits_of 1 0 1073741825 0 1) → ⊥
look_too_large l = let most = l.most_look in absurd (omega (arith, most))

no_nodes : AreLimits (limits_of 1 0 1 0 0) → ⊥
no_nodes l = let some = l.some_nodes in absurd (omega (arith, some))

too_many_nodes : AreLimits (limits_of 1 0 1 0 65537) → ⊥
too_many_nodes l = let most = l.most_nodes in absurd (omega (arith, most))

-- three spaces, what is read ahead, and 8 bytes for each entry of the queue
bound_of_the_program : bound_of (limits_of 1048576 4096 65536 18446744073709551615 16384) ≡ 3244032
bound_of_the_program = refl

held_of_each : total_of (record { pattern = 5; hold = 3; build = 2; look = 7; queue = 4 }) ≡ 49
held_of_each = refl
