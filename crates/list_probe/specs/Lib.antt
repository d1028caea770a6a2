pub mod SiteArray
pub mod Probing
