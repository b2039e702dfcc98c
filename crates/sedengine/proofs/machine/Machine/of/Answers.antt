use Rattle.std.proofs.Common.{false, refl, ap, ◌∙◌, length, arith}
use Rattle.std.proofs.lemmas.List.{length-replicate}
use Rattle.std.proofs.lemmas.Simd.{splat_is_map}
use Rattle.sedspace.specs.Spaces.{SpaceView, QueueView}
use Rattle.sedengine.proofs.Tasks.{opened}
use Rattle.sedengine.proofs.machine.Machine.of.Goals as goal

pub returns : goal.returns
returns c =
    let (ranges, _, (pattern, hold, _, _, _, _, queue), _) = c.requires.parts in
    let idle = ranges ∙ splat_is_map c.args.script.commands _ false refl in
    opened c.args.script c.args.script c.args.limits _ _ _ _ refl (ap (λ (s : SpaceView). s.bytes) pattern) hold (ap (λ (s : QueueView). s.items) queue) idle

pub invariant_of-result : goal.invariant_of-result
invariant_of-result c =
    let (ranges, idle, (pattern, hold, hold_limit, build_limit, build_within, copy_limit, queue), (seek, scratch_text, scratch_nodes, seeking)) = c.requires.parts in
    let nothing = ap (λ (s : SpaceView). length s.bytes) pattern in
    let none_held = ap length hold in
    let none_queued = ap (λ (s : QueueView). length s.items) queue in
    record {
      number = search arith;
      turns = search arith;
      pattern_limit = ap (λ (s : SpaceView). s.limit) pattern;
      pattern = omega (arith, nothing);
      hold_limit = hold_limit;
      hold = omega (arith, none_held);
      build_limit = build_limit;
      build_within = build_within;
      copy_limit = copy_limit;
      queue_limit = ap (λ (s : QueueView). s.limit) queue;
      queue = omega (arith, none_queued);
      queued = search arith;
      empty = search arith;
      ranges = ap length ranges ∙ length-replicate (length c.args.script.commands) false;
      used = search arith;
      scratch_text = scratch_text;
      scratch_nodes = scratch_nodes;
      matchers = seek;
      seeking = seeking;
      nodes = c.requires.nodes;
      idle = idle;
    }
