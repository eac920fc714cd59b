-- The hash of an ask, of all that tells asks apart. Any function of the ask would do, since equal asks then have equal hashes; from this
-- one on it is seldom that asks which differ have one hash.
use Rattle.std.specs.Prelude.{ℕ, ◌+◌, List, [], ◌∷◌, ◌++◌, length, fold, pos, Option, Some, None}
use Rattle.std.specs.Hash as fed
use Rattle.std.specs.Hash.FoldHasher as folding
use Rattle.rc_play_spec.specs.Control.{Frame, Control}
use Rattle.rc_play_spec.specs.View.{Sight, with_faces, partly, View}
use Rattle.rc_play_spec.specs.Tally.{Ask}

-- each place that is known, from one place on, with the number that is known of it, and behind them the number of places
abbrev pub known_fed : ℕ → List (Option ℕ) → List (List ℕ)
known_fed at [] = fed.usize at
known_fed at (Some number ∷ os) = fed.usize at ++ (fed.u16 number ++ known_fed (at + 1) os)
known_fed at (None ∷ os) = known_fed (at + 1) os

-- the index of the case, the number of places, and what is seen of them
abbrev pub sight_fed : Sight → List (List ℕ)
sight_fed (with_faces numbers) = fed.isize (pos 0) ++ fed.slice fed.u16 numbers
sight_fed (partly os) = fed.isize (pos 1) ++ (fed.usize (length os) ++ known_fed 0 os)

abbrev pub frame_fed : Frame → List (List ℕ)
frame_fed frame = fed.u16 frame.stage ++ (fed.u8 frame.member ++ (fed.bool frame.back ++ fed.option fed.u8 frame.named))

abbrev pub control_fed : Control → List (List ℕ)
control_fed control =
    fed.option fed.u8 control.site
    ++ (fed.slice frame_fed control.frames ++ (fed.u32 control.turn ++ fed.slice fed.u32 control.made))

-- the numbers twice
abbrev pub view_fed : View → List (List ℕ)
view_fed view =
    fed.u8 view.seat ++ (control_fed view.control
    ++ (fed.slice fed.i64 view.numbers ++ (fed.slice fed.i64 view.numbers ++ fed.slice sight_fed view.sights)))

abbrev pub ask_fed : Ask → List (List ℕ)
ask_fed ask = fed.u16 ask.rounds ++ (fed.u64 ask.key ++ (fed.u64 ask.seed ++ view_fed ask.view))

unfoldable pub ask_hash : Ask → ℕ
ask_hash ask = folding.finish (fold folding.write folding.initial (ask_fed ask))
