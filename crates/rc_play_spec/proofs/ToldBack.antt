-- What is played is told in either format, and read back.
use Rattle.std.proofs.Common.{◌≡◌, ◌≤◌, Bool, true, false, List, [], ◌∷◌, length, refl, sym, ap, ◌∙◌, arith, rules}
use Rattle.std.specs.List.{AllByRecursion}
use Rattle.rc_base.specs.Numbers.{below}
use Rattle.rc_play_spec.specs.About.{About}
use Rattle.rc_play_spec.specs.Draws.{key32}
use Rattle.rc_play_spec.specs.Plan.{Plan}
use Rattle.rc_play_spec.specs.Keyed.{dealing_of}
use Rattle.rc_play_spec.proofs.DrawLemmas.{permuted-is}
use Rattle.rc_play_spec.specs.ItemBounds.{Bound}
use Rattle.rc_play_spec.specs.Bounds.{AreMarks}
use Rattle.rc_play_spec.specs.Lines.{Line, opening, chosen, shuffled, ending, scored, ranked, IsInRange, IsMarkedInRange}
use Rattle.rc_play_spec.specs.HouseText.{HouseText, NamedText, lines_of, marked, left_behind, IsHead, IsText}
use Rattle.rc_play_spec.specs.PlayedLaws.{played_text, told_in, format_by}
use Rattle.rc_play_spec.specs.PlayedBack.{IsPlayable, IsToldBack}
use Rattle.rc_play_spec.proofs.AlongLemmas.{one_pass}
use Rattle.rc_play_spec.proofs.Fitting.{choices_in, picks_in, choices_of_matches}
use Rattle.rc_play_spec.proofs.LegalLemmas.{each_over}
use Rattle.rc_play_spec.proofs.Legends.{legend_one}
use Rattle.rc_play_spec.proofs.NamedPlayed.{matches_in_range}
use Rattle.rc_play_spec.proofs.Played.{played_house}
use Rattle.rc_play_spec.proofs.PlayedLemmas.{played_used}
use Rattle.rc_play_spec.proofs.LineGrammars.{text_read}
use Rattle.rc_play_spec.proofs.Readings.{is_grammar}
use Rattle.rc_play_spec.proofs.SameTexts.{plain_is}

-- lines in their ranges, with marks in theirs, where there is one for each choice
marked_ranges : (marks : List (List Bound)) (ls : List Line) → AllByRecursion IsInRange ls → AllByRecursion AreMarks marks → choices_in ls ≤ length marks →
    AllByRecursion (IsMarkedInRange true) (marked marks ls)
marked_ranges marks [] all are le = tt
marked_ranges [] (chosen p ∷ ls) all are le = absurd (omega (arith, le))
marked_ranges (m ∷ marks) (chosen p ∷ ls) all are le = ((all.0, are.0), marked_ranges marks ls all.1 are.1 (omega (arith, le)))
marked_ranges marks (opening n deal seats ∷ ls) all are le = ((all.0, tt), marked_ranges marks ls all.1 are le)
marked_ranges marks (shuffled n ∷ ls) all are le = ((all.0, tt), marked_ranges marks ls all.1 are le)
marked_ranges marks (ending e turn ∷ ls) all are le = ((all.0, tt), marked_ranges marks ls all.1 are le)
marked_ranges marks (scored s ∷ ls) all are le = ((all.0, tt), marked_ranges marks ls all.1 are le)
marked_ranges marks (ranked s ∷ ls) all are le = ((all.0, tt), marked_ranges marks ls all.1 are le)

nothing : (marks : List (List Bound)) → length marks ≤ 0 → marks ≡ []
nothing [] le = refl
nothing (m ∷ marks) le = absurd (omega (arith, le))

used_up : (marks : List (List Bound)) (ls : List Line) → length marks ≤ choices_in ls → left_behind marks ls ≡ []
used_up marks [] le = nothing marks le
used_up [] (chosen p ∷ ls) le = used_up [] ls (omega arith)
used_up (m ∷ marks) (chosen p ∷ ls) le = used_up marks ls (omega (arith, le))
used_up marks (opening n deal seats ∷ ls) le = used_up marks ls le
used_up marks (shuffled n ∷ ls) le = used_up marks ls le
used_up marks (ending e turn ∷ ls) le = used_up marks ls le
used_up marks (scored s ∷ ls) le = used_up marks ls le
used_up marks (ranked s ∷ ls) le = used_up marks ls le

module _ (about : About) (plan : Plan) (is : IsPlayable about plan) (few : length about.shape.faces ≤ 512) where
  abbrev told : Bool → NamedText
  told named = told_in named about plan (played_text about plan)

  told_is : (named : Bool) → IsText named (told named)
  told_is false = plain_is (played_text about plan) (played_house about plan is)
  told_is true =
      let t : HouseText = played_text about plan in
      let house = played_house about plan is in
      let marks = (told true).marks in
      let each : length marks ≡ picks_in t.matches = each_over about dealing_of plan 0 t.matches in
      let choices = choices_of_matches t.matches t.standings in
      let all = matches_in_range about dealing_of plan (λ deal k size. permuted-is (key32 deal 1 k 0) (below size)) is.shape is.well few 0 t.matches in
      record {
        ranges = marked_ranges marks (lines_of t) house.ranges all (omega (arith, each, choices));
        whole = used_up marks (lines_of t) (omega (arith, each, choices));
        matches = house.matches;
        scores = house.scores;
        standings = house.standings;
      }

  head_is : (named : Bool) → IsHead (format_by named about).head
  head_is false = search rules
  head_is true = (search rules, legend_one about.sheet about.shape is.well.words few)

  pub told_back : (named : Bool) → IsToldBack named about plan
  told_back named =
      record {
        text = told_is named;
        read = text_read (is_grammar (format_by named about) (head_is named)) (told named) (named_text named);
        passed =
            sym (one_pass about dealing_of plan named (length (format_by named about).head) (told named) (told_is named))
            ∙ played_used about plan (ap (λ shape. shape.places) is.shape) is.sight is.well.numbered.sites named (length (format_by named about).head);
      }
    where
      named_text : (named : Bool) → IsText (format_by named about).named (told named)
      named_text false = told_is false
      named_text true = told_is true
