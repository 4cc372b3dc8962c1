use Rattle.tm_gen_laws.proofs.Refusals.{refuses}
use Rattle.tomoyo.specs.Play.{reading_of}
use Rattle.tomoyo.proofs.ReadBack.{read-back}
use Rattle.tomoyo.proofs.HowLaws.{none-refused, how-read, playable}
use Rattle.tomoyo.proofs.play.play_of.Goals as goal

pub returns-in-Err-clause-refused : goal.returns-in-Err-clause-refused
returns-in-Err-clause-refused g c = refuses (reading_of c.args.how c.args.texts) c.in-Err.status c.in-Err.ensures.exact

pub play_loaded-requires-clause-playable : goal.play_loaded-requires-clause-playable
play_loaded-requires-clause-playable g c = playable c.args.how c.args.texts c.in-Ok.loaded c.in-Ok.ensures.exact c.in-Ok.ensures.few

pub returns-in-Ok-play_loaded-clause-played : goal.returns-in-Ok-play_loaded-clause-played
returns-in-Ok-play_loaded-clause-played g c =
    let how = c.args.how in
    let h = c.in-Ok-play_loaded.ensures in (
      none-refused how c.args.texts c.in-Ok.loaded c.in-Ok.ensures.exact,
      record {
        loaded = c.in-Ok.loaded;
        read = c.in-Ok.ensures.exact;
        plays = h;
        read_back = read-back c.args.texts c.in-Ok.loaded h.run c.in-Ok-play_loaded.played.run (how-read how c.args.texts c.in-Ok.loaded c.in-Ok.ensures.exact) h.is_legal h.printed.is_in_range h.printed.run_is;
      },
    )
