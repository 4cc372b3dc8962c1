-- Bare verdicts: what a verdict is but for its line.
use Rattle.std.specs.Prelude.{Bool, true, false, Option, Some, None, if◌then◌else◌}
use Rattle.tm_rules.specs.Types.{Entry, Namespace, Reason, Request, Verdict}
use Rattle.tm_rules.specs.Prelude.{line_of}
use Rattle.tm_verdict.specs.declared.targets.BareVerdict.{BareVerdict}

-- a verdict without its line
abbrev pub bare_of : Verdict → BareVerdict
bare_of v =
    record {
      mode = v.mode;
      reason = v.reason;
      name = v.name;
      leads = record { step = v.step; target = v.target };
    }

-- the line, where such a reason wants one
abbrev pub wanted_by : Reason → Entry → Option Entry
wanted_by Reason.Learn line = Some line
wanted_by Reason.Ask line = Some line
wanted_by _ line = None

-- the whole verdict, with this line where its reason wants one
abbrev pub completed : BareVerdict → Entry → Verdict
completed o line =
    record {
      mode = o.mode;
      reason = o.reason;
      name = o.name;
      step = o.leads.step;
      target = o.leads.target;
      line = wanted_by o.reason line;
    }

-- the whole verdict, with the line of this request where its reason wants one
abbrev pub with_line_of : Namespace → Request → BareVerdict → Verdict
with_line_of ns request o = completed o (line_of ns request)
