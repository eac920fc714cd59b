use Rattle.std.proofs.Common.{◌∙◌, ap, sym, ◌∷◌, [], option_to_list}
use Rattle.std.specs.Map.{keys_of}
use Rattle.rc_deck.proofs.EachLemmas.{on_ok}
use Rattle.rc_resolve.specs.Known.{with_words}
use Rattle.rc_resolve.proofs.Firsts.{seen_added}
use Rattle.rc_resolve.proofs.known.add_word.Goals as goal

pub returns-in-Some : goal.returns-in-Some
returns-in-Some c =
    let entries = c.args.words.now in
    on_ok c.add_entry.result c.add_entry.ensures (λ added.
    ap keys_of added
    ∙ seen_added (λ entry. entry.0) (λ bytes. bytes) entries ((c.in-Some.word, _) ∷ [])
    ∙ sym (ap (λ found. with_words (keys_of entries) (option_to_list found)) c.in-Some.is))
