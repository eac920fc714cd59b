use Rattle.rc_play_spec.specs.Redraw.{mems_of, seen_faces, seen_of}
use Rattle.rc_play_spec.proofs.Redrawn.{redrawn-smallest, few-seen, rest-hidden}
use Rattle.rc_play_spec.proofs.SmallestLemmas.{one-taking}
use Rattle.rc_play_spec.proofs.SmallestLemmas.{seen_ids-smallest, enough-fits}
use Rattle.rc_play_spec.proofs.laws.redraws.seen_places_take_the_smallest.Goals as goal

pub returns-clause-smallest : goal.returns-clause-smallest
returns-clause-smallest c = λ shape view of.
    let h = redrawn-smallest shape view of in
    (h, λ ids t. one-taking shape (seen_faces (mems_of shape.places) view.sights) ids (seen_of shape view) t h)

pub returns-clause-few : goal.returns-clause-few
returns-clause-few c = λ shape view of. few-seen shape view of

pub returns-clause-rest : goal.returns-clause-rest
returns-clause-rest c = λ shape view of. rest-hidden shape view of

pub returns-clause-any : goal.returns-clause-any
returns-clause-any c = λ shape fs enough. seen_ids-smallest shape fs (enough-fits shape fs enough)
