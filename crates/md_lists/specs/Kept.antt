-- What contracts see of linked lists, by their fields.
-- Source: this project's.
use Rattle.std.specs.Prelude.{◌≤◌, vec_len, vec_capacity}
use Rattle.md_lists.specs.declared.lists.Lists.TheInside.{Inside}
use Rattle.md_lists.specs.declared.TheConstants.{PLACES}
use Rattle.md_lists.specs.Links.{Links}
use Rattle.md_lists.specs.Store.{Store, links_of, IsStore}

-- the contents of the fields
abbrev pub store_of : Inside → Store
store_of a = record {
  made = vec_len a.kinds;
  kinds = a.kinds.items;
  parents = a.parents.items;
  spans = a.spans.items;
  nexts = a.nexts.items;
  previous = a.previous.items;
  tallies = a.tallies.items;
  notes = a.notes.items;
  marks = a.marks;
  mark_nexts = a.mark_nexts.items;
  free = a.free.items;
}

-- the links that the fields keep
abbrev pub links_kept : Inside → Links
links_kept a = links_of (store_of a)

-- each field has room for all places
abbrev pub HasRoomForPlaces : Inside → Type 0
HasRoomForPlaces a =
    (PLACES ≤ vec_capacity a.kinds)
    × (PLACES ≤ vec_capacity a.parents)
    × (PLACES ≤ vec_capacity a.spans)
    × (PLACES ≤ vec_capacity a.nexts)
    × (PLACES ≤ vec_capacity a.previous)
    × (PLACES ≤ vec_capacity a.tallies)
    × (PLACES ≤ vec_capacity a.notes)
    × (PLACES ≤ vec_capacity a.mark_nexts)
    × (PLACES ≤ vec_capacity a.free)

-- the fields have room, and keep links
abbrev pub IsKept : Inside → Type 0
IsKept a = HasRoomForPlaces a × IsStore (store_of a)
