use Rattle.std.specs.Prelude.{◌≡◌, ◌+◌, ◌<◌, ◌^◌, length}
use Rattle.rc_cache.specs.Book.{calls_of}
use Rattle.rc_cache.specs.Sums.{looks_in, hits_in, keeps_in, looks_of, hits_of, keeps_of}
use Rattle.rc_cache.proofs.closing.close.Given as goal

abbrev pub invariant-loop-lane : goal.invariant-loop-lane
invariant-loop-lane g l =
    record {
      parts : l.together.lanes + length l.lanes.items ≡ length l.fn.lanes.items;
      looks : l.together.looks + looks_in l.lanes.items ≡ looks_in l.fn.lanes.items;
      hits : l.together.hits + hits_in l.lanes.items ≡ hits_in l.fn.lanes.items;
      keeps : l.together.keeps + keeps_in l.lanes.items ≡ keeps_in l.fn.lanes.items;
      sums : (l.sums.looks.total ≡ looks_of (calls_of l.fn.book)) × (l.sums.hits.total ≡ hits_of (calls_of l.fn.book)) × (l.sums.keeps.total ≡ keeps_of (calls_of l.fn.book));
      fits : (l.sums.looks.total < 2 ^ 64) × (l.sums.hits.total < 2 ^ 64) × (l.sums.keeps.total < 2 ^ 64);
    }

abbrev pub decreases-loop-lane : goal.decreases-loop-lane
decreases-loop-lane g l = goal.left-loop-lane g l
