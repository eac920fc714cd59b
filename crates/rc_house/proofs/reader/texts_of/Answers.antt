use Rattle.std.proofs.Common.{◌≡◌, map, string_bytes, ap, ◌∙◌, sym, true, refl}
use Rattle.clap.specs.Walk.{first_of}
use Rattle.clap.specs.Simple.{is_simple, matches_of}
use Rattle.std.proofs.lemmas.Bool.{false≢true}
use Rattle.clap.specs.Takes.{takes}
use Rattle.clap.specs.Values.{kind_of}
use Rattle.clap.specs.declared.error.kind.ErrorKind.TheVariants.{OutOfMemory}
use Rattle.clap.specs.Matches.{found_of}
use Rattle.clap.proofs.WalkLemmas.{first_value-rows}
use Rattle.rc_house.specs.Words.{name_of, text_of}
use Rattle.rc_house.proofs.ClapLemmas.{is_simple_reader}
use Rattle.rc_house.proofs.OptionLemmas.{told_read, given_alike}
use Rattle.rc_house.proofs.reader.texts_of.Goals as goal

pub returns-in-Ok-try_get_matches_from : goal.returns-in-Ok-try_get_matches_from
returns-in-Ok-try_get_matches_from c = λ options has.
    let words = map string_bytes c.args.words.now in
    let read = told_read c.args.playing words options has in
    let app = c.in-Ok.ensures in
    let rows = (c.in-Ok-try_get_matches_from.ensures.matches (ap is_simple app ∙ is_simple_reader c.args.playing)).0 ∙ ap (λ a. matches_of a words) app in
    let found = found_of c.in-Ok-try_get_matches_from.matches in
    given_alike c.args.playing has.0 (text_of c.texts_in.result) words options
    (λ name. sym (c.texts_in.ensures name ∙ first_value-rows found (name_of name) ∙ ap (first_of (name_of name)) rows ∙ read.1 name)) has.1

pub returns : goal.returns
returns c = λ options has.
    let words = map string_bytes c.args.words.now in
    let read = told_read c.args.playing words options has in
    let kind : kind_of c.in-Err-try_get_matches_from.error ≡ OutOfMemory =
    c.in-Err-try_get_matches_from.ensures.passes (ap (λ a. takes a words) c.in-Ok.ensures ∙ read.0) in
    let same : c.eq.result ≡ true = rw (c.eq.ensures, c.kind.ensures, kind) refl in
    false≢true (sym c.if-eq.false ∙ same)
