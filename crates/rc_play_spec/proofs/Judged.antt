-- What is read off the bytes of a plan's house text is what was played, and so it is legal.
use Rattle.std.proofs.Common.{rules, ◌≡◌, ℕ, false, None, Result, Ok, Err, sym, ap, ◌∙◌, subst}
use Rattle.rc_play_spec.specs.HouseText.{plain, NamedText, unmarked}
use Rattle.rc_play_spec.specs.Reading.{read_in}
use Rattle.rc_play_spec.proofs.LineGrammars.{text_read}
use Rattle.rc_play_spec.proofs.Readings.{is_grammar}
use Rattle.rc_play_spec.proofs.SameTexts.{text_same, plain_is}
use Rattle.rc_play_spec.specs.About.{About}
use Rattle.rc_play_spec.specs.Plan.{Plan}
use Rattle.rc_play_spec.specs.Keyed.{dealing_of, keyed_house_text}
use Rattle.rc_play_spec.specs.Judged.{first_illegal}
use Rattle.rc_play_spec.specs.Legal.{IsLegalText}
use Rattle.rc_play_spec.specs.PlayedLaws.{played_text}
use Rattle.rc_play_spec.proofs.AlongLemmas.{one_pass}
use Rattle.rc_play_spec.proofs.LegalLemmas.{legal_back}
use Rattle.rc_play_spec.proofs.PlayedLemmas.{played_legal}
use Rattle.rc_play_spec.specs.PlayedBack.{IsPlayable}
use Rattle.rc_play_spec.proofs.Played.{played_house}

abbrev IsJudgedLegal : About → Plan → NamedText → Type 0
IsJudgedLegal about plan n = IsLegalText about dealing_of plan false n × (first_illegal about dealing_of plan 1 n ≡ None)

module _ (about : About) (plan : Plan) (is : IsPlayable about plan) where
  played_judged : IsJudgedLegal about plan (unmarked (played_text about plan))
  played_judged =
      let n = unmarked (played_text about plan) in
      let legal : IsLegalText about dealing_of plan false n = (played_legal about plan (ap (λ shape. shape.places) is.shape) is.sight is.well.numbered.sites, tt) in
      let good = plain_is (played_text about plan) (played_house about plan is) in
      (legal, sym (one_pass about dealing_of plan false 1 n good) ∙ legal_back about dealing_of plan false 1 n good legal)

  pub read_back : read_in plain (keyed_house_text about plan) ≡ Ok (unmarked (played_text about plan))
  read_back =
      ap (read_in plain) (text_same (played_text about plan))
      ∙ text_read (is_grammar plain (search rules)) (unmarked (played_text about plan)) (plain_is (played_text about plan) (played_house about plan is))

  same_text : (t u : NamedText) (r : Result NamedText ℕ) → r ≡ Ok t → r ≡ Ok u → t ≡ u
  same_text t u (Ok v) e e' = cc
  same_text t u (Err n) e e' = absurd cc

  pub judged_legal : (n : NamedText) → read_in plain (keyed_house_text about plan) ≡ Ok n → IsJudgedLegal about plan n
  judged_legal n read =
      subst (IsJudgedLegal about plan) (same_text (unmarked (played_text about plan)) n (read_in plain (keyed_house_text about plan)) read_back read) played_judged
