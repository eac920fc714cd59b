use Rattle.std.proofs.Common.{◌≡◌, ◌++◌, map, take, flat_map}
use Rattle.rc_play_spec.specs.Bounds.{mark_text}
use Rattle.rc_rules.specs.Bounds.{bound_seen}
use Rattle.rc_text.proofs.write.write_marks.Given as goal

abbrev pub invariant-loop-bound : goal.invariant-loop-bound
invariant-loop-bound l = l.out.items ≡ l.initial.out.items ++ flat_map mark_text (map bound_seen (take l.bound-index l.bounds))
