-- A legend as C holds it, and the way back; what a builder made. Definitions only.
use Rattle.std.specs.Prelude.{Result}
use Rattle.refusal.specs.Outcome.{Answer, if_done, first_of, answer_of, made_or}
use Rattle.legend.specs.declared.Legend.{Legend}
use Rattle.refusal.specs.declared.Refusal.{Refusal}
use Rattle.legend.specs.Record.{kind_numbered, kind_number, empty_legend}
use Rattle.c_records.specs.declared.record.LegendRecord.{LegendRecord}
use Rattle.c_records.specs.declared.record.LegendMade.{LegendMade}
use Rattle.c_types.specs.Answers.{answer_to_c}
use Rattle.c_types.specs.Settings.{settings_from_c, settings_to_c}

unfoldable pub legend_from_c : LegendRecord → Legend
legend_from_c r =
    record { kind = kind_numbered r.kind; linear = r.linear; banded = r.banded; categoric = r.categoric; mapping_config = settings_from_c r.settings }

unfoldable pub record_to_c : Legend → LegendRecord
record_to_c l = record {
  kind = kind_number l.kind;
  settings = settings_to_c l.mapping_config;
  linear = l.linear;
  banded = l.banded;
  categoric = l.categoric;
}

-- what a builder made, the empty legend beside a refusal; what the call's own arguments are refused by comes first
unfoldable pub made_to_c : (first : Answer) → Result Legend Refusal → LegendMade
made_to_c first made =
    record { answer = answer_to_c (first_of first (answer_of made)); legend = record_to_c (if_done first (made_or made empty_legend) empty_legend) }
