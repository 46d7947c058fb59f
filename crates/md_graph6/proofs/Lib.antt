pub mod PaddingLemmas
pub mod LineLemmas
pub mod LimitLemmas
pub mod ReadLemmas
pub mod SizeLemmas
pub mod DecodeLemmas
pub mod SpellLemmas
pub mod FileLemmas
pub mod FirstLemmas
pub mod BitLemmas
pub mod PutLemmas
pub mod FillLemmas
pub mod ShortLemmas
pub mod PutShort
pub mod Listed
pub mod SizeText
pub mod WriteLemmas
pub mod ByteLemmas
mod NumberLemmas
mod WalkLemmas
mod SparseLemmas
mod FileLineLemmas
