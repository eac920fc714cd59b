-- Who plays the matches of a plan: so many workers over one book of so many totals. What comes of their looks.
use Rattle.std.specs.Prelude.{◌≡◌, ℕ, ◌<◌, ◌≤◌, Bool, true, false, nat_lt, if◌then◌else◌, List, length}
use Rattle.rc_base.specs.Limits.{most_workers, most_entries}
use Rattle.rc_redraw.specs.Asking.{Key}
use Rattle.rc_cache.specs.Hits.{hits, cost}
use Rattle.rc_house.specs.declared.options.Options.{Options}

-- the options are within their limits
pub record AreWithin (options : Options) : Type 0 where
  pub some_workers : 1 ≤ options.workers
  pub workers : options.workers ≤ most_workers
  pub some_cache : 1 ≤ options.cache
  pub cache : options.cache ≤ most_entries

-- So many workers can play: one always can, and any number where several can play at one time, as `many` says.
abbrev pub CanPlay : (many : Bool) → ℕ → Type 0
CanPlay true workers = Unit {0}
CanPlay false workers = workers ≡ 1

-- So many of the looks hit. One worker looks the keys up in order, in a list that holds so many totals and keeps those
-- of each miss. Where several play at one time, not all looks hit, if there is one.
pub data AreHits (options : Options) (looks : List Key) (found : ℕ) : Type 0 where
  alone : options.workers ≤ 1 → found ≡ hits looks options.cache → AreHits options looks found
  shared : 1 < options.workers → found ≤ length looks → (0 < length looks → found < length looks)
      → AreHits options looks found

-- how many playouts are counted: of one worker those of the looks that miss, and of several none
abbrev pub counted_playouts : Options → List Key → ℕ
counted_playouts options looks = if nat_lt 1 options.workers then 0 else cost looks options.cache
