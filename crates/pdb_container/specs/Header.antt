-- The MSF header as the definitions see it, and its invariant.
use Rattle.std.specs.Prelude.{◌≡◌, ◌*◌, ◌%◌, ◌<◌, ◌≤◌, ◌^◌, length}
use Rattle.pdb_container.specs.declared.msf.Header.{Header}
use Rattle.std.specs.Int.{div_ceil}
use Rattle.pdb_container.specs.Container.{Layout}

-- the code's MSF header, as the definitions see it
abbrev pub layout : Header → Layout
layout h = record {
  page_size = h.page_size;
  pages_used = h.pages_used;
  directory_size = h.directory_size;
  list_pages = h.list_pages.items;
}

-- the page size is in range and a multiple of 4, and the pages that list the directory's are enough
pub record IsSound (h : Layout) : Type 0 where
  pub low : 0x100 ≤ h.page_size
  pub high : h.page_size ≤ 0x800000
  pub by_four : h.page_size % 4 ≡ 0
  pub enough : 4 * div_ceil h.directory_size h.page_size ≤ length h.list_pages * h.page_size
  pub few : length h.list_pages < 2 ^ 32
