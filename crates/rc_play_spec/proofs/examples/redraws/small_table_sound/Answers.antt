use Rattle.std.proofs.Common.{◌≡◌, ℕ, zero, suc, ◌<◌, ◌≤◌, List, [], ◌∷◌, get_or, refl, arith, true≢false}
use Rattle.std.specs.Prelude.{All, sum_by}
use Rattle.std.specs.List.{zip, AllByRecursion}
use Rattle.std.proofs.lemmas.Int.{ints}
use Rattle.std.proofs.lemmas.List.Elements.{All-from_recursion}
use Rattle.rc_base.specs.Clamp.{IsWithinClamp}
use Rattle.rc_sheet_spec.specs.Sheet.{mem, game_class}
use Rattle.rc_play_spec.specs.Shape.{Place}
use Rattle.rc_play_spec.specs.Table.{times_in, references_in, AreSeats, HidesMarked, marks_of}
use Rattle.rc_play_spec.proofs.MarkLemmas.{no_seats, Unseen, Hides}
use Rattle.rc_play_spec.specs.SmallMoment.{small_shape, small_table}
use Rattle.rc_play_spec.proofs.examples.redraws.small_table_sound.Goals as goal

within : (xs : List ℕ) → AllByRecursion (λ id. id < 5) xs → All (λ id. id < 5) xs
within xs h = All-from_recursion (λ id. id < 5) xs h

each-once : (id : ℕ) → id < 5 → sum_by (times_in id) (zip small_shape.places small_table.lists) ≡ 1
each-once zero less = refl
each-once (suc zero) less = refl
each-once (suc (suc zero)) less = refl
each-once (suc (suc (suc zero))) less = refl
each-once (suc (suc (suc (suc zero)))) less = refl
each-once (suc (suc (suc (suc (suc n))))) less = absurd (omega (arith, less))

one-seat : AreSeats 3 (0 ∷ [])
one-seat = record {
  ascending = λ j k d before less. absurd (omega (arith, before, less));
  within = All-from_recursion (λ s. s < 3) (0 ∷ []) (omega arith, tt);
}

abbrev at : ℕ → Place
at k = get_or small_shape.places k (record { kind = mem; class = game_class; owner = 0 })

hid : (list : List ℕ) (p : Place) → AllByRecursion (λ id. AllByRecursion (Unseen small_shape p) (marks_of small_table.marks id)) list →
    HidesMarked small_shape small_table.marks (p, list)
hid list p all free = All-from_recursion (Hides small_shape small_table.marks p) list (each list all) where
  each : (list : List ℕ) → AllByRecursion (λ id. AllByRecursion (Unseen small_shape p) (marks_of small_table.marks id)) list →
      AllByRecursion (Hides small_shape small_table.marks p) list
  each [] all = tt
  each (id ∷ list) all = (All-from_recursion (Unseen small_shape p) (marks_of small_table.marks id) all.0, each list all.1)

pub returns : goal.returns
returns c =
    record {
      locations = refl;
      amounts = refl;
      ids = All-from_recursion (All (λ id. id < 5)) small_table.lists (
        within (0 ∷ 1 ∷ 2 ∷ []) (omega arith, (omega arith, (omega arith, tt))),
        (
          within [] tt,
          (
            within (3 ∷ 4 ∷ []) (omega arith, (omega arith, tt)),
            (within [] tt, (within [] tt, (within [] tt, (within (4 ∷ 3 ∷ []) (omega arith, (omega arith, tt)), tt)))),
          ),
        ),
      );
      once = each-once;
      mems = All-from_recursion (λ at. references_in at ≤ 512) (zip small_shape.places small_table.lists)
          (omega arith, (omega arith, (omega arith, (omega arith, (omega arith, (omega arith, (omega arith, tt)))))));
      together = omega arith;
      marked = refl;
      seats = All-from_recursion (AreSeats 3) small_table.marks (no_seats 3, (no_seats 3, (no_seats 3, (one-seat, (no_seats 3, tt)))));
      hidden = All-from_recursion (HidesMarked small_shape small_table.marks) (zip small_shape.places small_table.lists) (
        hid (0 ∷ 1 ∷ 2 ∷ []) (at 0) (tt, (tt, (tt, tt))),
        (hid [] (at 1) tt, (hid (3 ∷ 4 ∷ []) (at 2) ((refl, tt), (tt, tt)), (hid [] (at 3) tt, (hid [] (at 4) tt, (hid [] (at 5) tt, (λ free. absurd (true≢false free), tt)))))),
      );
      clamped = All-from_recursion IsWithinClamp small_table.numbers
          ((omega (arith, ints), omega (arith, ints)), ((omega (arith, ints), omega (arith, ints)), ((omega (arith, ints), omega (arith, ints)), ((omega (arith, ints), omega (arith, ints)), tt))));
    }
