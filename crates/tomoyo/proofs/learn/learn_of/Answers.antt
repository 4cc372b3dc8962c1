use Rattle.tm_gen_laws.proofs.Refusals.{refuses}
use Rattle.tomoyo.specs.Play.{reading_of}
use Rattle.tomoyo.proofs.ReadBack.{read-back, rerun-read-back}
use Rattle.tomoyo.proofs.HowLaws.{none-refused, how-read, playable}
use Rattle.tomoyo.proofs.learn.learn_of.Goals as goal

pub returns-in-Err-clause-refused : goal.returns-in-Err-clause-refused
returns-in-Err-clause-refused g c = refuses (reading_of c.args.how c.args.texts) c.in-Err.status c.in-Err.ensures.exact

pub learn_loaded-requires-clause-playable : goal.learn_loaded-requires-clause-playable
learn_loaded-requires-clause-playable g c = playable c.args.how c.args.texts c.in-Ok.loaded c.in-Ok.ensures.exact c.in-Ok.ensures.few

pub returns-in-Ok-learn_loaded-clause-learned : goal.returns-in-Ok-learn_loaded-clause-learned
returns-in-Ok-learn_loaded-clause-learned g c =
    let how = c.args.how in
    let h = c.in-Ok-learn_loaded.ensures in
    let read = how-read how c.args.texts c.in-Ok.loaded c.in-Ok.ensures.exact in (
      none-refused how c.args.texts c.in-Ok.loaded c.in-Ok.ensures.exact,
      record {
        loaded = c.in-Ok.loaded;
        read = c.in-Ok.ensures.exact;
        learns = h;
        read_back = read-back c.args.texts c.in-Ok.loaded h.run c.in-Ok-learn_loaded.learned.played.run read h.is_legal h.printed.is_in_range h.printed.run_is;
        rerun_read_back = rerun-read-back how c.args.texts c.in-Ok.loaded c.in-Ok-learn_loaded.learned c.switched_stays_opened.ensures c.switched_domains.ensures.domains c.switched_domains.ensures.live read h;
      },
    )
