use Rattle.md_io.proofs.Numbers.{All-below, below-All}
use Rattle.md_io.proofs.mem_files.MemFiles.new.Goals as goal

pub returns-clause-sure : goal.returns-clause-sure
returns-clause-sure c = (λ h. All-below 1 c.args.failing.items h, λ h. below-All 1 c.args.failing.items h)
