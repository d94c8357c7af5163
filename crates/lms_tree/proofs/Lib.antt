mod TreeLaws
mod SignatureLaws
