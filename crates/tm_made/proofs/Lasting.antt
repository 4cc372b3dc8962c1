-- A domain that was live has its profile from then on.
use Rattle.tm_legal.specs.Prelude.{IsOpened, after}
use Rattle.tm_legal.proofs.Plays.{after-append}
use Rattle.tm_legal.proofs.Opened.{steps_keep_opened}
use Rattle.tm_made.specs.Lasting.{OnceLiveIsProfiled}
use Rattle.tm_made.proofs.Fits.{steps-last}

pub once-live-is-profiled : OnceLiveIsProfiled
once-live-is-profiled g start steps more d x grammar opened at live =
    let then : IsOpened (after g start steps).policy = steps_keep_opened g start steps grammar opened in
    let (y, there, name, has) = (steps-last g (after g start steps) more).keeps.domains d x at in
    rw (after-append g start steps more) (y, there, name, has (then.profiles d x at live))
