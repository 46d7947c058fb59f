-- Fronts of reports by places are the beginnings of whole reports.
use Rattle.md_report.specs.Lines.{fed_line}
use Rattle.md_report.specs.Places.{after_end, MayCome, next_place}
use Rattle.md_report.specs.Laws.{FrontsBeginReports}
use Rattle.md_report.proofs.Protocols.{fronts_begin_by}
use Rattle.md_report.proofs.Places.{can_end}

pub fronts_begin_proof : FrontsBeginReports
fronts_begin_proof p sound bytes = fronts_begin_by MayCome next_place fed_line after_end p (can_end p sound) bytes
