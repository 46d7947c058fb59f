-- What contracts see of an ordered partition, by its fields.
-- Source: this project's.
use Rattle.std.specs.Prelude.{vec_len}
use Rattle.md_refine.specs.declared.partition.Partition.TheInside.{Inside}
use Rattle.md_refine.specs.Partitions.{Classes}
use Rattle.md_refine.specs.Slots.{MarkStore, partition_of, IsMarkStore}

-- the contents of the fields
abbrev pub marks_kept : Inside → MarkStore
marks_kept a = record {
  homes = a.homes.items;
  owners = a.owners.items;
  counts = a.counts.items;
  mains = a.mains.items;
  halves = a.halves.items;
  nexts = a.nexts.items;
  size = vec_len a.nexts;
  first = a.first;
  used = a.used;
  leads = a.leads;
  low = a.low;
}

-- the partition that the fields keep
abbrev pub partition_kept : Inside → Classes
partition_kept a = partition_of (marks_kept a)

-- the fields keep a partition
abbrev pub KeepsPartition : Inside → Type 0
KeepsPartition a = IsMarkStore (marks_kept a)
