-- A clean learned run is repeated by its switched final policy: the parts put together.
use Rattle.tm_rerun_laws.specs.Repeating.{Parts}
use Rattle.tm_legal.specs.Prelude.{LearnedRunRepeats, LooksRepeat}
use Rattle.tm_rerun_laws.proofs.Repeating as law
use Rattle.tm_rerun_laws.proofs.CleanRuns.{clean_run_grows}
use Rattle.tm_rerun_laws.proofs.PlainRuns.{plain_stays}
use Rattle.tm_rerun_laws.proofs.ExecuteLaws.{first_execute_stays}
use Rattle.tm_rerun_laws.proofs.LearnedLines.{learned_lines_grant}
use Rattle.tm_rerun_laws.proofs.DomainsLive.{domains_stay}

parts : Parts
parts = record { grows = clean_run_grows; plain = plain_stays; first_execute = first_execute_stays clean_run_grows plain_stays; learned = learned_lines_grant clean_run_grows; domains = domains_stay }

pub looks_repeat : LooksRepeat
looks_repeat = law.looks_repeat parts

pub learned_runs_repeat : LearnedRunRepeats
learned_runs_repeat = law.learned_runs_repeat parts
