use Rattle.std.proofs.Common.{map}
use Rattle.std.specs.String.{string_bytes}
use Rattle.sf_app.proofs.ShownLemmas.{run_means}
use Rattle.sf_app.specs.Words.{tells_place}
use Rattle.sf_app.proofs.WordLemmas.{live_has_no_summary, others_have_no_queue}
use Rattle.sf_app.proofs.StatusLemmas.{first_or_last, no_play, no_refusal, right_words, two_or_last}
use Rattle.sf_app.proofs.session.run.Goals as goal

pub returns-clause-complete : goal.returns-clause-complete
returns-clause-complete g c = λ options bytes scene right told spelled calm still.
    let ended = c.follow.ensures in
    first_or_last c.follow.result ended.range
    (λ usage. right_words _ options right (ended.usage usage))
    (λ refused. no_refusal _ options _ _ _ _ bytes scene right told spelled (ended.refused refused))
    (λ failed. calm (ended.read_failed failed))
    (λ failed. still (ended.write_failed failed))

pub returns-clause-complete_refusal : goal.returns-clause-complete_refusal
returns-clause-complete_refusal g c = λ options bytes fault right told wrong calm still.
    let ended = c.follow.ensures in
    two_or_last c.follow.result ended.range
    (λ done. no_play _ options _ _ _ _ bytes fault right told wrong (ended.played done))
    (λ usage. right_words _ options right (ended.usage usage))
    (λ failed. calm (ended.read_failed failed))
    (λ failed. still (ended.write_failed failed))

pub returns-clause-means : goal.returns-clause-means
returns-clause-means g c = λ done.
    let p = c.follow.ensures.played done in
    let words = map string_bytes c.args.words.now in
    let shown = run_means p.options.run p.options.summary (tells_place p.options) p.scene _ _ (live_has_no_summary words p.options p.right) (others_have_no_queue words p.options p.right) p.run in
    record {
      options = p.options;
      right = p.right;
      bytes = p.bytes;
      script = p.script;
      scene = p.scene;
      spelled = p.spelled;
      records = shown.records;
      means = shown.means;
      written = shown.written;
    }
